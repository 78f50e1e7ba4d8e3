use Rattle.std.proofs.Common.{◌≡◌, ◌≤◌, length}
use Rattle.conflict_rows.specs.Trail.{top_level}
use Rattle.engine_trails.specs.History.{history_to}
use Rattle.engine_trails.proofs.Tables.{HasMarks}
use Rattle.engine_trails.proofs.marks.marks_of.Given as goal

abbrev pub invariant-loop-k : goal.invariant-loop-k
invariant-loop-k l = record {
  vars : length l.marks.items ≡ l.engine.vars;
  top : l.level ≡ top_level (history_to l.k l.engine);
  few : l.level ≤ l.k;
  has : HasMarks l.marks.items (history_to l.k l.engine);
}
