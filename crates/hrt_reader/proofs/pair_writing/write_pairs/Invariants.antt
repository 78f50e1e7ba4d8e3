use Rattle.std.proofs.Common.{◌++◌, ◌∷◌, [], take}
use Rattle.std.specs.Prelude.{flat_map}
use Rattle.hrt_base.specs.Calls.{Sent}
use Rattle.hrt_reader.specs.PairsText.{pair_text}
use Rattle.hrt_reader.proofs.pair_writing.write_pairs.Given as goal

abbrev pub invariant-loop-pair : goal.invariant-loop-pair
invariant-loop-pair g l = Sent g.H.Host.told l.port (flat_map (λ p. pair_text l.inst p.0 ++ 10 ∷ []) (take l.pair-index l.pairs)) (g.H.Host.world l.initial.host) (g.H.Host.world l.host)
