use Rattle.std.proofs.Common.{◌<◌, ◌^◌, ◌∙◌, ap, arith, length, subst}
use Rattle.rank_tables.specs.Instance.{Lists, pair_count}
use Rattle.stability_model.specs.Gone.{AreGone}
use Rattle.stability_model.specs.Model.{rows}
use Rattle.derivation.specs.Deletions.{is_deleted}
use Rattle.derivation.specs.Derived.{Derived}
use Rattle.pair_reduction.specs.Reduced.{AreInNone, MakesFew}
use Rattle.derivation.proofs.Starts.{count_writable}
use Rattle.hrt_solve.proofs.KeepsLaw.{lawful_bound}
use Rattle.hrt_solve.proofs.Holding.{holds_bound, holds_units}
use Rattle.hrt_solve.proofs.Gauging.{gauged, most, next_small, numbers_are, unlogged}
use Rattle.hrt_solve.proofs.bounding.gauge.Goals as goal

pub returns-clause-numbers : goal.returns-clause-numbers
returns-clause-numbers c =
    let are : AreGone c.args.inst.now (is_deleted c.in_ok-gone.gone) = subst (λ (l : Lists). AreGone l (is_deleted c.in_ok-gone.gone)) (ap (λ (d : Derived). d.lists) c.requires.first) c.in_ok-gone.ensures.gone in
    numbers_are c.args.inst.now c.in_ok-gone.gone c.count.result c.ceiling.result are
    (c.in_ok-gone.ensures.pairs ∙ ap (λ (d : Derived). pair_count d.lists) c.requires.first) c.count.ensures (c.ceiling.ensures.exact are)

pub returns-clause-most : goal.returns-clause-most
returns-clause-most c = most c.args.inst.now c.in_ok-gone.gone c.ceiling.result c.ceiling.ensures.bounds (subst (λ (l : Lists). AreInNone l c.in_ok-gone.gone) (ap (λ (d : Derived). d.lists) c.requires.first) c.in_ok-gone.ensures.in_none)

pub returns-clause-few : goal.returns-clause-few
returns-clause-few c = c.ceiling.ensures.few

pub returns-clause-small : goal.returns-clause-small
returns-clause-small c = omega (arith, c.ceiling.ensures.few, c.pairs-pairs.ensures.count, c.pairs-pairs.ensures.few)

pub returns-clause-gauged : goal.returns-clause-gauged
returns-clause-gauged c =
    gauged c.args.inst.now c.in_ok-gone.gone c.in_ok-row.row c.args.deriv.now c.reduce.new.deriv c.derive_bound.new.deriv c.requires.first c.reduce.ensures.goes_on c.in_ok-row.ensures.bound c.ceiling.result c.ceiling.ensures.value c.in_ok-row.ensures.row

pub returns-clause-holds : goal.returns-clause-holds
returns-clause-holds c =
    holds_bound c.args.inst.now c.in_ok-gone.gone c.in_ok-row.row c.reduce.new.deriv c.derive_bound.new.deriv
    (holds_units c.args.inst.now c.in_ok-gone.gone c.args.deriv.now c.reduce.new.deriv c.requires.first c.reduce.ensures.goes_on c.in_ok-gone.ensures.holds
    (c.in_ok-gone.ensures.pairs ∙ ap (λ (d : Derived). pair_count d.lists) c.requires.first) c.in_ok-gone.ensures.units)
    c.in_ok-gone.ensures.ready c.next-next.ensures.in_order c.in_ok-row.ensures.bound

pub returns-clause-least : goal.returns-clause-least
returns-clause-least c = unlogged c.args.inst.now c.in_ok-gone.gone c.in_ok-row.row c.args.deriv.now c.reduce.new.deriv c.derive_bound.new.deriv c.requires.first c.reduce.ensures.goes_on c.in_ok-row.ensures.bound

pub returns-clause-next : goal.returns-clause-next
returns-clause-next c =
    next_small c.args.inst.now c.in_ok-gone.gone c.in_ok-row.row c.args.deriv.now c.reduce.new.deriv c.derive_bound.new.deriv c.requires.first c.reduce.ensures.goes_on c.in_ok-row.ensures.bound
    (subst (λ (l : Lists). MakesFew (pair_count l) c.args.deriv.now c.reduce.new.deriv) (ap (λ (d : Derived). d.lists) c.requires.first) c.reduce.ensures.few) (omega (arith, c.pairs-pairs.ensures.count, c.pairs-pairs.ensures.few))
    (subst (λ (l : Lists). length (rows l) < 2 ^ 32) c.requires.model (omega (arith, c.row_count-rows.ensures.count)))

pub returns-clause-lawful : goal.returns-clause-lawful
returns-clause-lawful c =
    let lists : Lists = c.args.inst.now in
    let few : length (rows lists) < 2 ^ 32 = subst (λ (l : Lists). length (rows l) < 2 ^ 32) c.requires.model (omega (arith, c.row_count-rows.ensures.count)) in
    let are : AreGone lists (is_deleted c.in_ok-gone.gone) = subst (λ (l : Lists). AreGone l (is_deleted c.in_ok-gone.gone)) (ap (λ (d : Derived). d.lists) c.requires.first) c.in_ok-gone.ensures.gone in
    lawful_bound lists c.in_ok-gone.gone c.args.deriv.now c.reduce.new.deriv c.requires.first (count_writable (length (rows lists)) few) c.requires.stands are c.reduce.ensures.goes_on c.in_ok-gone.ensures.holds c.in_ok-row.row c.derive_bound.new.deriv c.in_ok-row.ensures.bound c.in_ok-row.ensures.lawful
    c.in_ok-row.ensures.ready
