use Rattle.std.proofs.Common.{take, sym, ◌∙◌, subst, arith}
use Rattle.std.specs.List.{All}
use Rattle.std.proofs.lemmas.List.{take_all, take_more}
use Rattle.std.proofs.lemmas.List.Elements.{All-push}
use Rattle.pb_rows.specs.Terms.{IsRisingFrom, PlainRow}
use Rattle.propagation.specs.Following.{IsOver}
use Rattle.proof_rules.proofs.Numbers.{numbered-push}
use Rattle.proof_checker.proofs.Living.{fresh, numbered-on}
use Rattle.proof_checker.proofs.state.first_rows.Goals as goal

pub add-requires-clause-fresh : goal.add-requires-clause-fresh
add-requires-clause-fresh c = fresh c.loop-row.next 1 c.loop-row.next c.loop-row.live.rows (omega arith) c.loop-row.invariant.ordered

pub add-requires-clause-covered : goal.add-requires-clause-covered
add-requires-clause-covered c =
    rw (c.loop-row.invariant.vars, c.in_ok-copy.ensures) (subst (IsOver c.args.vars) (sym c.row-item.is) (c.requires.over c.loop-row.row-index c.row-item.result c.loop-row-test.true))

pub loop-row-preserved : goal.loop-row-preserved
loop-row-preserved c = record {
  vars = rw c.in_ok-add.ensures.ok c.loop-row.invariant.vars;
  next = omega arith;
  ordered = rw c.in_ok-add.ensures.ok (numbered-push 1 c.loop-row.next c.loop-row.live.rows c.in_ok-copy.copy c.loop-row.invariant.ordered);
  rows =
      rw (c.in_ok-add.ensures.ok, c.in_ok-copy.ensures)
      (numbered-on c.loop-row.live.rows c.loop-row.next c.loop-row.row-index c.args.rows.now c.row-item.result c.row-item.result c.loop-row-test.true (sym c.row-item.is) ∙ c.loop-row.invariant.rows);
  normal =
      subst (All (λ (row : PlainRow). IsRisingFrom 0 row.terms)) (sym (take_more c.args.rows.now c.loop-row.row-index c.row-item.result c.loop-row-test.true))
      (All-push (λ (row : PlainRow). IsRisingFrom 0 row.terms) (take c.loop-row.row-index c.args.rows.now) _ c.loop-row.invariant.normal
      (subst (λ (row : PlainRow). IsRisingFrom 0 row.terms) c.row-item.is c.terms-terms.ensures.normal.rising));
}

pub returns-clause-normal : goal.returns-clause-normal
returns-clause-normal c = subst (All (λ (row : PlainRow). IsRisingFrom 0 row.terms)) (take_all c.loop-row.row-index c.args.rows.now c.loop-row-test.false) c.loop-row.invariant.normal
