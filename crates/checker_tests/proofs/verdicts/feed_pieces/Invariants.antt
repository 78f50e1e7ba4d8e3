use Rattle.std.proofs.Common.{◌+◌, ◌≤◌, IsTrue, length}
use Rattle.proof_checker.specs.Limits.{most_proof_bytes}
use Rattle.proof_checker.specs.Standing.{is_open}
use Rattle.checker_tests.proofs.verdicts.feed_pieces.Given as goal

abbrev pub invariant-loop-left : goal.invariant-loop-left
invariant-loop-left l = record {
  reading : IsTrue (is_open l.checker.phase);
  few : length l.checker.bytes + length l.left ≤ most_proof_bytes;
}

abbrev pub decreases-loop-left : goal.decreases-loop-left
decreases-loop-left l = length l.left
