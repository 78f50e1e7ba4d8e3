use Rattle.std.proofs.Common.{◌≡◌, ◌+◌, ◌++◌, drop, take, All}
use Rattle.pb_rows.specs.Terms.{IsRisingFrom}
use Rattle.pb_rows.specs.Formula.{numbered_from}
use Rattle.proof_rules.specs.States.{AreNumbered}
use Rattle.proof_checker.proofs.state.first_rows.Given as goal

abbrev pub invariant-loop-row : goal.invariant-loop-row
invariant-loop-row l = record {
  vars : l.live.vars ≡ l.vars;
  next : l.next ≡ l.row-index + 1;
  ordered : AreNumbered 1 l.next l.live.rows;
  rows : l.live.rows ++ numbered_from l.next (drop l.row-index l.rows) ≡ numbered_from 1 l.rows;
  normal : All (λ row. IsRisingFrom 0 row.terms) (take l.row-index l.rows);
}
