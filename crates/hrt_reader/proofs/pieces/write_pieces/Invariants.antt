use Rattle.std.proofs.Common.{take}
use Rattle.std.specs.Prelude.{flat_map}
use Rattle.hrt_base.specs.Calls.{Sent}
use Rattle.hrt_reader.proofs.pieces.write_pieces.Given as goal

abbrev pub invariant-loop-piece : goal.invariant-loop-piece
invariant-loop-piece g l = Sent g.H.Host.told l.port (flat_map (λ piece. piece.now) (take l.piece-index l.pieces)) (g.H.Host.world l.initial.host) (g.H.Host.world l.host)
