use Rattle.std.proofs.Common.{ℕ, ap, subst, sym, ◌∙◌, arith}
use Rattle.propagation.specs.Following.{IsOver}
use Rattle.pb_rows.specs.Formula.{row_of}
use Rattle.rank_tables.specs.Instance.{pair_count}
use Rattle.stability_model.specs.Model.{rows}
use Rattle.derivation.proofs.Readiness.{rows_count}
use Rattle.analysis_tests.proofs.Holding.{model_live, short_row}
use Rattle.analysis_tests.proofs.systems.hold_pairs.Goals as goal

pub hold-requires-clause-live : goal.hold-requires-clause-live
hold-requires-clause-live c =
    ap (λ (n : ℕ). row_of n c.loop-p.deriv.state.live) c.from.ensures
    ∙ model_live c.args.model.now c.loop-p.deriv c.pair_row-number.result c.in_ok-row.row c.loop-p.invariant.system.ready c.loop-p.invariant.system.same
    (omega (arith, c.pair_row-number.ensures.number, c.loop-p.auto.p)) (omega (arith, c.pair_row-number.ensures.number, rows_count c.args.model.now, c.loop-p-test.true, c.pairs-p-end.ensures.count, ap pair_count c.instance.ensures)) c.in_ok-row.ensures

pub hold-requires-clause-over : goal.hold-requires-clause-over
hold-requires-clause-over c =
    subst (λ (n : ℕ). IsOver n c.in_ok-row.row) (ap pair_count c.loop-p.invariant.system.same ∙ sym c.loop-p.invariant.system.agree.vars)
    (short_row (pair_count c.args.model.now) c.pair_row-number.result (rows c.args.model.now) c.in_ok-row.row
    c.row_count-rows.ensures.short (omega (arith, c.pair_row-number.ensures.number, c.loop-p.auto.p)) (omega (arith, c.pair_row-number.ensures.number, rows_count c.args.model.now, c.loop-p-test.true, c.pairs-p-end.ensures.count, ap pair_count c.instance.ensures)) c.in_ok-row.ensures).over

pub hold-requires-clause-short : goal.hold-requires-clause-short
hold-requires-clause-short c =
    (short_row (pair_count c.args.model.now) c.pair_row-number.result (rows c.args.model.now) c.in_ok-row.row
    c.row_count-rows.ensures.short (omega (arith, c.pair_row-number.ensures.number, c.loop-p.auto.p)) (omega (arith, c.pair_row-number.ensures.number, rows_count c.args.model.now, c.loop-p-test.true, c.pairs-p-end.ensures.count, ap pair_count c.instance.ensures)) c.in_ok-row.ensures).short
