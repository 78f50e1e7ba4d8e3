use Rattle.std.proofs.Common.{arith, ◌+◌, ◌-◌, take, ◌∙◌, ap}
use Rattle.std.specs.Prelude.{slice_get}
use Rattle.stability_model.specs.Model.{rows}
use Rattle.row_arena.specs.declared.arena.Place.{Place}
use Rattle.std.proofs.Common.{List, ◌∷◌, [], ◌++◌}
use Rattle.lazy_stability.proofs.Added.{one_added, same_row, take_next}
use Rattle.lazy_stability.proofs.loading.add_rows.Goals as goal

pub loop-p-preserved : goal.loop-p-preserved
loop-p-preserved c =
    one_added c.args.model.now c.args.engine.now c.loop-p.engine c.add_row.new.self (take c.loop-p.p-index c.args.pairs.now) (take (c.loop-p.p-index + 1) c.args.pairs.now) c.loop-p.places.items c.push_reserved.new.self.items _ c.in_ok-place.place c.in_ok-row.row _
    c.loop-p.invariant c.in_ok-place.ensures.ok
    (c.push_reserved.ensures.items ∙ ap (λ (ps : List Place). ps ++ c.in_ok-place.place ∷ []) c.in_ok-reserve.ensures.items)
    (take_next c.args.pairs.now c.loop-p.p-index (record { 0 = 0 }) c.loop-p-test.true)
    (same_row (slice_get (rows c.args.model.now) (c.pair_row-number.result - 1)) c.in_ok-row.row _ c.in_ok-row.ensures c.pair_row-number.ensures.row)
    (omega (arith, c.from.ensures, c.pair_row-number.ensures.number))
