use Rattle.std.proofs.Common.{◌≤◌, ◌+◌, length}
use Rattle.proof_checker.specs.Places.{IsAt, place_of}
use Rattle.proof_checker.specs.Endings.{IsPassed}
use Rattle.proof_checker.proofs.judging.judge_lines.Given as goal

abbrev pub invariant-lines : goal.invariant-lines
invariant-lines l = record {
  stands : IsAt l.formula l.stage l.state;
  passed : IsPassed l.formula l.bytes l.left l.lines (place_of l.stage l.state.state);
  next : l.state.state.next ≤ length l.formula.rows + 1 + l.lines;
}

abbrev pub decreases-lines : goal.decreases-lines
decreases-lines l = length l.left
