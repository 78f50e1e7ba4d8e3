use Rattle.std.proofs.Common.{arith, ◌≤◌, ap, subst, sym, ℕ}
use Rattle.rank_tables.specs.Instance.{Lists, pair_count}
use Rattle.stability_model.specs.Model.{AreShortRows, rows, pair_row_no}
use Rattle.derivation.proofs.Readiness.{rows_count}
use Rattle.pb_search.specs.Opening.{CanHold, HasOneMore}
use Rattle.pb_search.proofs.Openings.{first_more}
use Rattle.pb_search.proofs.OpeningRows.{model_can}
use Rattle.pb_search.proofs.opening.hold_first.Goals as goal

pub hold-requires-clause-can : goal.hold-requires-clause-can
hold-requires-clause-can c =
    let last : c.loop-k.k ≤ pair_row_no c.args.deriv.now.lists 0 = omega (arith, c.loop-k-test.true, c.pair_row-k-end.ensures.number, ap (λ (l : Lists). pair_row_no l 0) c.requires.model) in
    subst (CanHold c.args.deriv.now) (sym c.from.ensures)
    (model_can c.args.deriv.now c.loop-k.k c.requires.ready (subst (λ (l : Lists). AreShortRows (pair_count l) (rows l)) c.requires.model c.row_count-rows.ensures.short)
    (c.requires.held c.loop-k.k c.loop-k.auto.k last) c.loop-k.auto.k (omega (arith, last, rows_count c.args.deriv.now.lists)))

pub loop-k-preserved : goal.loop-k-preserved
loop-k-preserved c = first_more c.args.deriv.now c.loop-k.engine c.hold.new.engine c.loop-k.k c.loop-k.auto.k (subst (λ (n : ℕ). HasOneMore c.args.deriv.now n c.loop-k.engine c.hold.new.engine) c.from.ensures c.in_ok-hold.ensures.held) c.loop-k.invariant
