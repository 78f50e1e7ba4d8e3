use Rattle.std.proofs.Common.{◌≡◌, ◌-◌, take, true}
use Rattle.std.specs.List.{list_all}
use Rattle.pb_rows.specs.Points.{point_of}
use Rattle.pb_rows.specs.Rows.{holds}
use Rattle.stability_model.specs.Model.{rows}
use Rattle.analysis_tests.proofs.systems.hold_at.Given as goal

abbrev pub invariant-loop-k : goal.invariant-loop-k
invariant-loop-k l = list_all (holds (point_of l.fn.point)) (take (l.k - 1) (rows l.fn.model)) ≡ true
