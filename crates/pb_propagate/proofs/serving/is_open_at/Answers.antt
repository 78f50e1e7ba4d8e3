use Rattle.std.proofs.Common.{◌∙◌, List, arith, subst, sym}
use Rattle.std.specs.List.{All}
use Rattle.std.proofs.lemmas.List.{take_all}
use Rattle.std.proofs.lemmas.List.Elements.{All-more}
use Rattle.hrt_base.specs.declared.literal.Term.{Term}
use Rattle.pb_rows.specs.Terms.{IsPositive}
use Rattle.pb_rows.specs.Closure.{IsSettled}
use Rattle.pb_rows.proofs.Order.{positive_at}
use Rattle.row_arena.specs.Held.{row_at}
use Rattle.pb_propagate.specs.Entries.{set_of, up_to}
use Rattle.pb_propagate.proofs.Opens.{free-false, open-by}
use Rattle.pb_propagate.proofs.serving.is_open_at.Goals as goal
use Rattle.pb_propagate.proofs.serving.is_open_at.Goals.{else-sum-degree-2-via-then-sum-degree-2+else-is_free_at, else-sum-degree-2-via-else-sum-degree-2}

pub weight_of-requires : goal.weight_of-requires
weight_of-requires c =
    subst (λ (t : Term). IsPositive t.coef) (sym c.term-t.ensures) (positive_at _ 0 c.loop-k.k c.term-t.result c.len-k-end.ensures.kept.normal.rising (omega (arith, c.loop-k-test.true, c.len-k-end.ensures.value)))

pub returns-then-is_free_at : goal.returns-then-is_free_at
returns-then-is_free_at c =
    let row = row_at c.args.place.0 c.args.arena.now.held in
    let set = set_of (up_to c.args.level c.args.trail.now.entries) in
    open-by set row c.nonfalse_total-sum.result c.loop-k.k c.term-t.result (omega (arith, c.loop-k-test.true, c.len-k-end.ensures.value)) c.term-t.ensures c.nonfalse_total-sum.ensures.value
    (omega (arith, c.if-sum-degree-2.true, c.degree_of-degree.ensures, c.weight_of.ensures.value)) (sym c.is_free_at.ensures ∙ c.if-is_free_at.true)

pub loop-k-preserved : goal.loop-k-preserved
loop-k-preserved c =
    let row = row_at c.args.place.0 c.args.arena.now.held in
    let set = set_of (up_to c.args.level c.args.trail.now.entries) in
    let here : IsSettled set row c.term-t.result = λ unfalse exceeds. elim c.else-sum-degree-2.branch [
      | else-sum-degree-2-via-then-sum-degree-2+else-is_free_at w ↦ free-false _ _ (sym w.is_free_at.ensures ∙ w.if-is_free_at.false) unfalse
      | else-sum-degree-2-via-else-sum-degree-2 w ↦ absurd (omega (arith, exceeds, w.if-sum-degree-2.false, c.degree_of-degree.ensures, c.weight_of.ensures.value, c.nonfalse_total-sum.ensures.value))
    ] in
    All-more (IsSettled set row) row.terms c.loop-k.k c.term-t.result (omega (arith, c.loop-k-test.true, c.len-k-end.ensures.value)) c.loop-k.invariant (subst (IsSettled set row) c.term-t.ensures here)

pub returns : goal.returns
returns c =
    let row = row_at c.args.place.0 c.args.arena.now.held in
    let set = set_of (up_to c.args.level c.args.trail.now.entries) in
    let all = take_all c.loop-k.k row.terms (omega (arith, c.loop-k-test.false, c.len-k-end.ensures.value)) in
    record {
      unfalsified = omega (arith, c.if-sum-degree.false, c.degree_of-degree.ensures, c.nonfalse_total-sum.ensures.value);
      settled = subst (λ (ts : List Term). All (IsSettled set row) ts) all c.loop-k.invariant;
    }
