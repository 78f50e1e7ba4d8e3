use Rattle.std.proofs.Common.{◌≡◌, take}
use Rattle.pb_rows.specs.Points.{point_of, value_at}
use Rattle.proof_steps.proofs.solution.objective_value.Given as goal

abbrev pub invariant-loop-term : goal.invariant-loop-term
invariant-loop-term l = l.value ≡ value_at (point_of l.point) (take l.term-index l.objective)
