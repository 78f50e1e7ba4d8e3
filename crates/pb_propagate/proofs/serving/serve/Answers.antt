use Rattle.std.proofs.Common.{◌∙◌, ◌<◌, ℕ, List, arith, length, refl, subst, sym}
use Rattle.std.specs.List.{All}
use Rattle.std.proofs.lemmas.List.{take_all}
use Rattle.hrt_base.specs.declared.literal.Term.{Term}
use Rattle.pb_rows.specs.Terms.{IsPositive}
use Rattle.pb_rows.proofs.Order.{positive_at}
use Rattle.propagation.specs.Following.{IsSettledAt}
use Rattle.row_arena.specs.Held.{row_at}
use Rattle.pb_propagate.specs.Entries.{set_of}
use Rattle.pb_propagate.specs.Serving.{TakesTerm}
use Rattle.pb_propagate.proofs.Opens.{sum-now}
use Rattle.pb_propagate.proofs.Serves.{served-none, served-term, serves-all}
use Rattle.pb_propagate.proofs.serving.serve.Goals as goal

pub returns-then-sum-degree : goal.returns-then-sum-degree
returns-then-sum-degree c = record {
  falsified = omega (arith, c.if-sum-degree.true, c.degree_of-degree.ensures, c.nonfalse_total-sum.ensures.value, sum-now c.args.trail.now.entries (row_at c.args.place.0 c.args.arena.now.held).terms c.level.result c.level.ensures.value);
  same = refl;
}

pub loop-k-init : goal.loop-k-init
loop-k-init c = served-none c.args.arena.now.held c.args.place.0 c.nonfalse_total-sum.result c.args.trail.now c.level.ensures.order.few

pub take_term-requires-clause-positive : goal.take_term-requires-clause-positive
take_term-requires-clause-positive c =
    subst (λ (t : Term). IsPositive t.coef) (sym c.term.ensures) (positive_at _ 0 c.loop-k.k c.term.result c.len-k-end.ensures.kept.normal.rising (omega (arith, c.loop-k-test.true, c.len-k-end.ensures.value)))

pub loop-k-preserved : goal.loop-k-preserved
loop-k-preserved c =
    let row = row_at c.args.place.0 c.args.arena.now.held in
    let within : c.loop-k.k < length row.terms = omega (arith, c.loop-k-test.true, c.len-k-end.ensures.value) in
    let is = c.nonfalse_total-sum.ensures.value ∙ sum-now c.args.trail.now.entries row.terms c.level.result c.level.ensures.value in
    let takes : TakesTerm c.nonfalse_total-sum.result row.degree c.args.place.0 c.term.result c.loop-k.trail c.take_term.new.trail = subst (λ (n : ℕ). TakesTerm c.nonfalse_total-sum.result n c.args.place.0 c.term.result c.loop-k.trail c.take_term.new.trail) c.degree_of-degree.ensures c.take_term.ensures in
    served-term c.args.arena.now.held c.args.place.0 c.nonfalse_total-sum.result c.loop-k.k c.term.result c.args.trail.now c.loop-k.trail c.take_term.new.trail c.requires.held within is c.loop-k.invariant
    (subst (λ (t : Term). TakesTerm c.nonfalse_total-sum.result row.degree c.args.place.0 t c.loop-k.trail c.take_term.new.trail) c.term.ensures takes)

pub returns : goal.returns
returns c =
    let row = row_at c.args.place.0 c.args.arena.now.held in
    let is = c.nonfalse_total-sum.ensures.value ∙ sum-now c.args.trail.now.entries row.terms c.level.result c.level.ensures.value in
    let all = take_all c.loop-k.k row.terms (omega (arith, c.loop-k-test.false, c.len-k-end.ensures.value)) in
    let a = c.loop-k.invariant in
    let settled = subst (λ (ts : List Term). All (IsSettledAt (set_of c.loop-k.trail.entries) c.nonfalse_total-sum.result row.degree) ts) all a.settled in
    serves-all c.args.arena.now.held c.args.place.0 c.nonfalse_total-sum.result c.loop-k.k c.args.trail.now c.loop-k.trail c.len-k-end.ensures.kept.normal.rising is (omega (arith, c.if-sum-degree.false, c.degree_of-degree.ensures)) a settled
