use Rattle.std.proofs.Common.{◌+◌, ◌-◌, ◌*◌, ◌∙◌, ap, ap₂, arith}
use Rattle.pb_rows.specs.Terms.{coef_sum}
use Rattle.pb_rows.specs.Joined.{lost_all}
use Rattle.pb_rows.proofs.Forms.{put_all_sum_is, tests_degree, tests_sum}
use Rattle.pb_rows.proofs.row.can_add.Goals as goal

pub overflow_mul-sum : goal.overflow_mul-sum
overflow_mul-sum c =
    let lost = c.loss-lost.ensures ∙ ap₂ lost_all c.deref.ensures.value c.deref-2.ensures.value in
    omega (arith, lost, put_all_sum_is c.a.inside.terms.items c.b.inside.terms.items, c.a.invariant.fits.sum, c.b.invariant.fits.sum)

pub overflow_sub-sum : goal.overflow_sub-sum
overflow_sub-sum c =
    let lost = c.loss-lost.ensures ∙ ap₂ lost_all c.deref.ensures.value c.deref-2.ensures.value in
    let first = c.total.ensures ∙ ap coef_sum c.deref-3.ensures.value in
    let second = c.total-2.ensures ∙ ap coef_sum c.deref-4.ensures.value in
    omega (arith, lost, first, second, put_all_sum_is c.a.inside.terms.items c.b.inside.terms.items)

pub returns-then-sum-le-MOST : goal.returns-then-sum-le-MOST
returns-then-sum-le-MOST c =
    let lost = c.loss-lost.ensures ∙ ap₂ lost_all c.deref.ensures.value c.deref-2.ensures.value in
    let first = c.total.ensures ∙ ap coef_sum c.deref-3.ensures.value in
    let second = c.total-2.ensures ∙ ap coef_sum c.deref-4.ensures.value in
    rw (← c.a.view_is, ← c.b.view_is, c.saturating_sub-degree.ensures, lost)
    (tests_degree _ _ c.a.invariant c.b.invariant (omega (arith, lost, first, second, c.if-sum-le-MOST.true)))

pub returns-else-sum-le-MOST : goal.returns-else-sum-le-MOST
returns-else-sum-le-MOST c =
    let lost = c.loss-lost.ensures ∙ ap₂ lost_all c.deref.ensures.value c.deref-2.ensures.value in
    let first = c.total.ensures ∙ ap coef_sum c.deref-3.ensures.value in
    let second = c.total-2.ensures ∙ ap coef_sum c.deref-4.ensures.value in
    rw (← c.a.view_is, ← c.b.view_is)
    (tests_sum _ _ (c.total.result + c.total-2.result - 2 * c.loss-lost.result) c.a.invariant c.b.invariant (omega (arith, lost, first, second)) (omega (arith, c.if-sum-le-MOST.false)))
