use Rattle.std.proofs.Common.{take}
use Rattle.std.specs.Prelude.{flat_map}
use Rattle.hrt_base.specs.Calls.{Sent}
use Rattle.hrt_base.specs.declared.port.Port.TheVariants.{Instance}
use Rattle.hrt_reader.specs.Written.{names_of, spaced}
use Rattle.hrt_reader.proofs.writing.write_spaced.Given as goal

abbrev pub invariant-loop-number : goal.invariant-loop-number
invariant-loop-number g l = Sent g.H.Host.told Instance (flat_map (spaced (names_of l.side l.instance)) (take l.number-index l.numbers)) (g.H.Host.world l.initial.host) (g.H.Host.world l.host)
