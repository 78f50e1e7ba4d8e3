use Rattle.std.proofs.Common.{◌∙◌, ◌<◌, List, ap, arith, length, subst}
use Rattle.std.proofs.lemmas.List.{take_all}
use Rattle.hrt_base.specs.declared.literal.Lit.{Lit}
use Rattle.hrt_base.specs.declared.literal.Term.{Term}
use Rattle.pb_rows.specs.Terms.{opposite_lit}
use Rattle.row_arena.specs.Held.{row_at}
use Rattle.pb_propagate.specs.Serving.{IsNextAmong, IsTrueFrom}
use Rattle.pb_propagate.proofs.Lowest.{next-start, next-step}
use Rattle.pb_propagate.proofs.serving.next_level.Goals as goal

pub loop-k-init : goal.loop-k-init
loop-k-init c = next-start c.args.trail.now.entries (row_at c.args.place.0 c.args.arena.now.held).terms c.args.level

pub loop-k-preserved : goal.loop-k-preserved
loop-k-preserved c =
    let ts = (row_at c.args.place.0 c.args.arena.now.held).terms in
    let within : c.loop-k.k < length ts = omega (arith, c.loop-k-test.true, c.len-k-end.ensures.value) in
    let lit = c.opposite.ensures ∙ ap (λ (t : Term). opposite_lit t.lit) c.term.ensures in
    let from = subst (λ (l : Lit). IsTrueFrom c.args.trail.now.entries l c.true_level-from.result) lit c.true_level-from.ensures.from in
    next-step c.args.trail.now.entries ts c.loop-k.k c.term.result c.args.level within _ _ _ c.loop-k.invariant from c.nearer-next.ensures

pub returns : goal.returns
returns c =
    let ts = (row_at c.args.place.0 c.args.arena.now.held).terms in
    let all = take_all c.loop-k.k ts (omega (arith, c.loop-k-test.false, c.len-k-end.ensures.value)) in
    subst (λ (xs : List Term). IsNextAmong c.args.trail.now.entries xs c.args.level c.loop-k.next) all c.loop-k.invariant
