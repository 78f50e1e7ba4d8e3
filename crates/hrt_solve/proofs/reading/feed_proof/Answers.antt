use Rattle.std.proofs.Common.{arith}
use Rattle.hrt_base.proofs.Pieces.{taken_past, taken_within}
use Rattle.proof_checker.specs.Limits.{most_proof_bytes}
use Rattle.hrt_solve.proofs.reading.feed_proof.Goals as goal

pub returns-then-count-left-clause-ended : goal.returns-then-count-left-clause-ended
returns-then-count-left-clause-ended g c =
    let room = c.loop-count.invariant.room in
    let more = c.if-count-left.true in
    taken_past _ _ _ _ _ most_proof_bytes _ _ _ c.loop-count.invariant.taken c.in_ok-count.ensures.taken c.in_ok-count.ensures.count (omega arith)

pub returns-then-is_err-clause-ended : goal.returns-then-is_err-clause-ended
returns-then-is_err-clause-ended g c =
    let room = c.loop-count.invariant.room in
    let fits = c.if-count-left.false in
    taken_within _ _ _ _ _ most_proof_bytes _ _ _ c.loop-count.invariant.taken c.in_ok-count.ensures.taken c.in_ok-count.ensures.count (omega arith) (omega arith)
