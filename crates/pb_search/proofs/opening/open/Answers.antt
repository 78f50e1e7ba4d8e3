use Rattle.std.proofs.Common.{arith, ◌∙◌, ◌≤◌, subst}
use Rattle.rank_tables.specs.Instance.{Lists, pair_count}
use Rattle.pb_search.proofs.Openings.{all_held, opened}
use Rattle.pb_search.proofs.OpeningRows.{bound_held, ceiling_short, first_held, improve_held, known_can, larger_short, unit_can}
use Rattle.pb_search.proofs.opening.open.Goals as goal

pub hold_first-requires-clause-held : goal.hold_first-requires-clause-held
hold_first-requires-clause-held c n first last = first_held c.args.gone.now c.args.bound_row c.args.improve_row c.args.deriv.now c.requires.can.opening n first last

pub hold_deleted-requires-clause-can : goal.hold_deleted-requires-clause-can
hold_deleted-requires-clause-can c p id e = unit_can c.args.gone.now c.args.bound_row c.args.improve_row c.args.deriv.now c.requires.can.opening p id e

pub hold-requires-clause-can : goal.hold-requires-clause-can
hold-requires-clause-can c =
    let few : pair_count c.args.deriv.now.lists ≤ 100000 = subst (λ (l : Lists). pair_count l ≤ 100000) (c.instance.ensures ∙ c.requires.model) (omega (arith, c.pairs-pairs.ensures.count, c.pairs-pairs.ensures.few)) in
    known_can c.args.deriv.now c.args.bound_row.0 _ (bound_held c.args.gone.now c.args.bound_row c.args.improve_row c.args.deriv.now c.requires.can.opening) c.requires.can.top (ceiling_short c.args.deriv.now.lists c.args.ceiling few c.requires.can.few)

pub hold-requires-2-clause-can : goal.hold-requires-2-clause-can
hold-requires-2-clause-can c =
    let few : pair_count c.args.deriv.now.lists ≤ 100000 = subst (λ (l : Lists). pair_count l ≤ 100000) (c.instance.ensures ∙ c.requires.model) (omega (arith, c.pairs-pairs.ensures.count, c.pairs-pairs.ensures.few)) in
    known_can c.args.deriv.now c.args.improve_row.0 _ (improve_held c.args.gone.now c.args.bound_row c.args.improve_row c.args.deriv.now c.requires.can.opening) c.requires.can.larger (larger_short c.args.deriv.now.lists c.args.first.now few c.requires.can.found.stable)

pub returns-clause-agree : goal.returns-clause-agree
returns-clause-agree c =
    all_held c.args.gone.now c.args.ceiling c.args.bound_row c.args.improve_row c.args.deriv.now c.hold-2.new.engine c.requires.can.opening
    (opened c.args.gone.now c.args.bound_row c.args.improve_row c.args.deriv.now _ _ _ _ c.in_ok-engine.ensures c.in_ok-hold_deleted.ensures.held c.in_ok-hold.ensures.held c.in_ok-hold-2.ensures.held)

pub returns-clause-start : goal.returns-clause-start
returns-clause-start c =
    (opened c.args.gone.now c.args.bound_row c.args.improve_row c.args.deriv.now _ _ _ c.hold-2.new.engine c.in_ok-engine.ensures c.in_ok-hold_deleted.ensures.held c.in_ok-hold.ensures.held c.in_ok-hold-2.ensures.held).start
