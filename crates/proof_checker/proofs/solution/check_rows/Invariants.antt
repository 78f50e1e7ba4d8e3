use Rattle.std.proofs.Common.{◌≡◌, ◌+◌, drop}
use Rattle.std.specs.Prelude.{Ok}
use Rattle.pb_rows.specs.Points.{point_of}
use Rattle.proof_rules.specs.States.{if_hold}
use Rattle.proof_checker.specs.Tests.{holding_rows}
use Rattle.proof_checker.proofs.solution.check_rows.Given as goal

abbrev pub invariant-loop-row : goal.invariant-loop-row
invariant-loop-row l = record {
  number : l.number ≡ l.row-index;
  rest : if_hold (point_of l.point) (l.number + 1) (drop l.row-index l.rows) (Ok tt) ≡ holding_rows (point_of l.point) l.rows;
}
