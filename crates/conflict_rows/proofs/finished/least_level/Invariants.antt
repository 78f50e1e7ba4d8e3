use Rattle.std.proofs.Common.{◌≡◌}
use Rattle.std.specs.Prelude.{None}
use Rattle.conflict_rows.specs.Trail.{propagates_some}
use Rattle.conflict_rows.specs.CutRows.{least_below}
use Rattle.conflict_rows.specs.Marks.{set_up_to}
use Rattle.conflict_rows.proofs.finished.least_level.Given as goal

abbrev pub invariant-loop-level : goal.invariant-loop-level
invariant-loop-level l = least_below (λ k. propagates_some (set_up_to l.marks k) l.row) l.level ≡ None
