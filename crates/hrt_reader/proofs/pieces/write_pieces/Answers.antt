use Rattle.std.proofs.Common.{ℕ, List, arith, rules}
use Rattle.std.specs.Borrow.{Bor}
use Rattle.hrt_reader.proofs.Flat.{part_sent, part_failed}
use Rattle.hrt_reader.proofs.pieces.write_pieces.Goals as goal

abbrev bytes : Bor (List ℕ) → List ℕ
bytes piece = piece.now

pub loop-piece-preserved : goal.loop-piece-preserved
loop-piece-preserved g c = part_sent bytes c.args.pieces.now c.loop-piece.piece-index _ _ _ _ _ _ (omega arith) c.loop-piece.invariant c.in_ok-write_all.ensures.sent

pub returns-in_err-write_all-clause-failed : goal.returns-in_err-write_all-clause-failed
returns-in_err-write_all-clause-failed g c =
    let part = part_failed bytes c.args.pieces.now c.loop-piece.piece-index _ _ _ _ _ _ (omega arith) c.loop-piece.invariant c.in_err-write_all.ensures.failed in
    search rules
