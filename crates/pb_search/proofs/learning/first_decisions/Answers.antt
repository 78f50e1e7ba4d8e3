use Rattle.std.proofs.Common.{◌+◌, ◌-◌, ◌<◌, true, false, List, [], ◌∷◌, ◌++◌, length, sym, ap, ◌∙◌, subst, arith}
use Rattle.std.specs.Prelude.{slice_index_or}
use Rattle.std.proofs.lemmas.List.{length-map}
use Rattle.hrt_base.specs.declared.literal.Lit.{Lit}
use Rattle.pb_propagate.specs.Entries.{Entry}
use Rattle.pb_search.proofs.Decisions.{HasPassed, at, decides_there, ends_before, ends_behind, passed_decision, passed_reasoned}
use Rattle.pb_search.proofs.learning.first_decisions.Goals as goal

pub loop-k-preserved-then-is_some : goal.loop-k-preserved-then-is_some
loop-k-preserved-then-is_some c =
    let e = c.args.engine.now in
    let k = c.loop-k.k in
    let none : Lit = record { var = 0; neg = false } in
    let within : k < length e.trail = omega (arith, ap length c.trail-trail.ensures.value, length-map e.trail (λ (x : Entry). x.lit)) in
    let s = at e c.trail-trail.ensures.order k within in
    passed_reasoned e.trail c.args.level k c.loop-k.left c.loop-k.decisions c.loop-k.invariant s
    (decides_there e c.trail-trail.ensures.order k within _ c.reason.result true (ap (λ (ls : List Lit). slice_index_or ls k none) c.trail-trail.ensures.value ∙ s.lit none) c.reason.ensures (sym c.is_some.ensures ∙ c.if-is_some.true))

pub returns-then-left-eq0 : goal.returns-then-left-eq0
returns-then-left-eq0 c =
    let e = c.args.engine.now in
    let k = c.loop-k.k in
    let none : Lit = record { var = 0; neg = false } in
    let within : k < length e.trail = omega (arith, ap length c.trail-trail.ensures.value, length-map e.trail (λ (x : Entry). x.lit)) in
    let s = at e c.trail-trail.ensures.order k within in
    ends_before e.trail c.args.level k c.loop-k.left c.loop-k.decisions c.loop-k.invariant s c.if-left-eq0.true
    (decides_there e c.trail-trail.ensures.order k within _ c.reason.result false (ap (λ (ls : List Lit). slice_index_or ls k none) c.trail-trail.ensures.value ∙ s.lit none) c.reason.ensures (sym c.is_some.ensures ∙ c.if-is_some.false))

pub loop-k-preserved : goal.loop-k-preserved
loop-k-preserved c =
    let e = c.args.engine.now in
    let k = c.loop-k.k in
    let none : Lit = record { var = 0; neg = false } in
    let within : k < length e.trail = omega (arith, ap length c.trail-trail.ensures.value, length-map e.trail (λ (x : Entry). x.lit)) in
    let s = at e c.trail-trail.ensures.order k within in
    let lit = ap (λ (ls : List Lit). slice_index_or ls k none) c.trail-trail.ensures.value ∙ s.lit none in
    subst (HasPassed e.trail c.args.level (k + 1) (c.loop-k.left - 1)) (sym (c.in_ok-push.ensures.ok ∙ ap (λ (l : Lit). c.loop-k.decisions ++ l ∷ []) lit))
    (passed_decision e.trail c.args.level k c.loop-k.left c.loop-k.decisions c.loop-k.invariant s (c.loop-k.left - 1) (omega (arith, c.if-left-eq0.false))
    (decides_there e c.trail-trail.ensures.order k within _ c.reason.result false lit c.reason.ensures (sym c.is_some.ensures ∙ c.if-is_some.false)))

pub returns : goal.returns
returns c =
    let e = c.args.engine.now in
    ends_behind e.trail c.args.level c.loop-k.k c.loop-k.left c.loop-k.decisions c.loop-k.invariant (omega (arith, c.loop-k-test.false, ap length c.trail-trail.ensures.value, length-map e.trail (λ (x : Entry). x.lit)))
