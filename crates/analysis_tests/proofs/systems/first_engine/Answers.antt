use Rattle.std.proofs.Common.{ℕ, subst, sym, arith}
use Rattle.propagation.specs.Following.{IsOver}
use Rattle.rank_tables.specs.Instance.{pair_count}
use Rattle.derivation.proofs.Readiness.{rows_count}
use Rattle.stability_model.specs.Model.{rows}
use Rattle.analysis_tests.proofs.Holding.{short_row}
use Rattle.analysis_tests.proofs.Starting.{adds_first, agrees_first}
use Rattle.analysis_tests.proofs.systems.first_engine.Goals as goal

pub add_row-requires-clause-covered : goal.add_row-requires-clause-covered
add_row-requires-clause-covered c =
    subst (λ (n : ℕ). IsOver n c.in_ok-row.row) (sym c.loop-k.invariant.vars)
    (short_row (pair_count c.args.model.now) c.loop-k.k (rows c.args.model.now) c.in_ok-row.row c.row_count-rows.ensures.short c.loop-k.auto.k (omega (arith, c.loop-k-test.true, c.pair_row-k-end.ensures.number, rows_count c.args.model.now)) c.in_ok-row.ensures).over

pub add_row-requires-clause-short : goal.add_row-requires-clause-short
add_row-requires-clause-short c =
    (short_row (pair_count c.args.model.now) c.loop-k.k (rows c.args.model.now) c.in_ok-row.row c.row_count-rows.ensures.short c.loop-k.auto.k (omega (arith, c.loop-k-test.true, c.pair_row-k-end.ensures.number, rows_count c.args.model.now)) c.in_ok-row.ensures).short

pub loop-k-preserved : goal.loop-k-preserved
loop-k-preserved c =
    adds_first c.args.model.now c.args.deriv.now c.loop-k.engine c.add_row.new.self c.loop-k.k c.in_ok-add_row.field-0.0 c.from.result c.in_ok-row.row _ c.requires.first c.row_count-rows.ensures.short c.loop-k.auto.k
    (omega (arith, c.loop-k-test.true, c.pair_row-k-end.ensures.number)) c.in_ok-row.ensures c.loop-k.invariant c.in_ok-add_row.ensures.ok c.from.ensures

pub returns-clause-agree : goal.returns-clause-agree
returns-clause-agree c = agrees_first c.args.model.now c.args.deriv.now c.loop-k.engine c.loop-k.k c.requires.first
    (omega (arith, c.loop-k-test.false, c.loop-k.auto.k-end (omega (arith, c.pair_row-k-end.ensures.number)), c.pair_row-k-end.ensures.number)) c.loop-k.invariant
