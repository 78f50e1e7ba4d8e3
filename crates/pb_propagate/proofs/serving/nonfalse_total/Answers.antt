use Rattle.std.proofs.Common.{◌∙◌, ap, arith, subst, sym}
use Rattle.std.proofs.lemmas.List.{take_all}
use Rattle.hrt_base.specs.declared.literal.Term.{Term}
use Rattle.pb_rows.specs.Terms.{IsPositive}
use Rattle.pb_rows.specs.Closure.{nonfalse_share, nonfalse_sum}
use Rattle.pb_rows.proofs.Order.{positive_at}
use Rattle.pb_rows.proofs.Sums.{nonfalse_sum_le, nonfalse_sum_more, nonfalse_sum_more_le}
use Rattle.row_arena.specs.Held.{row_at}
use Rattle.pb_propagate.specs.Entries.{set_of, up_to}
use Rattle.pb_propagate.proofs.serving.nonfalse_total.Goals as goal

pub nonfalse_share-sum-requires-clause-positive : goal.nonfalse_share-sum-requires-clause-positive
nonfalse_share-sum-requires-clause-positive c =
    subst (λ (t : Term). IsPositive t.coef) (sym c.term.ensures) (positive_at _ 0 c.loop-k.k c.term.result c.len-k-end.ensures.kept.normal.rising (omega (arith, c.loop-k-test.true, c.len-k-end.ensures.value)))

pub overflow_add-sum : goal.overflow_add-sum
overflow_add-sum c =
    let set = set_of (up_to c.args.level c.args.trail.now.entries) in
    let ts = (row_at c.args.place.0 c.args.arena.now.held).terms in
    let share = c.nonfalse_share-sum.ensures ∙ ap (nonfalse_share set) c.term.ensures in
    omega (arith, c.loop-k.invariant, share, c.len-k-end.ensures.kept.short.sum, nonfalse_sum_le set ts, nonfalse_sum_more_le set ts c.loop-k.k c.term.result (omega (arith, c.loop-k-test.true, c.len-k-end.ensures.value)))

pub loop-k-preserved : goal.loop-k-preserved
loop-k-preserved c =
    let set = set_of (up_to c.args.level c.args.trail.now.entries) in
    let ts = (row_at c.args.place.0 c.args.arena.now.held).terms in
    let share = c.nonfalse_share-sum.ensures ∙ ap (nonfalse_share set) c.term.ensures in
    omega (arith, c.loop-k.invariant, share, nonfalse_sum_more set ts c.loop-k.k c.term.result (omega (arith, c.loop-k-test.true, c.len-k-end.ensures.value)))

pub returns-clause-bound : goal.returns-clause-bound
returns-clause-bound c =
    let set = set_of (up_to c.args.level c.args.trail.now.entries) in
    let ts = (row_at c.args.place.0 c.args.arena.now.held).terms in
    let all = ap (nonfalse_sum set) (take_all c.loop-k.k ts (omega (arith, c.loop-k-test.false, c.len-k-end.ensures.value))) in
    omega (arith, c.loop-k.invariant, all, nonfalse_sum_le set ts, c.len-k-end.ensures.kept.short.sum)
