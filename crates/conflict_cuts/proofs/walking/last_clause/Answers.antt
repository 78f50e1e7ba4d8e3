use Rattle.std.proofs.Common.{◌≡◌, ◌+◌, ◌-◌, ◌∙◌, ap, length, subst, sym, arith}
use Rattle.std.proofs.lemmas.List.{length-map}
use Rattle.row_arena.specs.Held.{row_at}
use Rattle.derivation.specs.Derived.{Derived}
use Rattle.conflict_cuts.specs.declared.walking.Step.{Step}
use Rattle.conflict_cuts.specs.Laid.{Lays}
use Rattle.conflict_cuts.specs.Walks.{StepsTo}
use Rattle.conflict_cuts.proofs.Walks.{begins_walk, stands_now, walk_ends, walks_on}
use Rattle.conflict_cuts.proofs.walking.last_clause.Goals as goal

pub loop-k-init : goal.loop-k-init
loop-k-init c = begins_walk c.args.engine.now c.args.marks.now c.args.conflict.0 (length c.trail-k.result.now) c.args.deriv.now c.first_clause.new.deriv c.in_ok-made.made c.requires.set c.requires.held c.requires.falsified
    c.in_ok-made.ensures.made c.in_ok-made.ensures.row (ap length c.trail-k.ensures.value ∙ length-map c.args.engine.now.trail (λ x. x.lit))

pub take_step-requires-clause-stands : goal.take_step-requires-clause-stands
take_step-requires-clause-stands c = (row_at c.args.conflict.0 c.args.engine.now.held, (stands_now c.args.engine.now c.args.marks.now (row_at c.args.conflict.0 c.args.engine.now.held) c.loop-k.k c.args.deriv.now c.loop-k.deriv c.loop-k.made c.loop-k-test.true c.loop-k.invariant).walked.come)

pub returns-in-Last-clause-last : goal.returns-in-Last-clause-last
returns-in-Last-clause-last c =
    let s = (subst (λ (s : Step). StepsTo c.args.engine.now (row_at c.args.conflict.0 c.args.engine.now.held) (c.loop-k.k - 1) c.loop-k.deriv c.take_step.new.deriv c.loop-k.made s) c.in-Last.is
    (c.in_ok-last.ensures.steps (row_at c.args.conflict.0 c.args.engine.now.held) (stands_now c.args.engine.now c.args.marks.now (row_at c.args.conflict.0 c.args.engine.now.held) c.loop-k.k c.args.deriv.now c.loop-k.deriv c.loop-k.made c.loop-k-test.true c.loop-k.invariant).walked.come)) in
    walk_ends c.args.engine.now c.args.marks.now (row_at c.args.conflict.0 c.args.engine.now.held) (c.loop-k.k - 1 + 1) c.args.deriv.now c.loop-k.deriv c.take_step.new.deriv c.loop-k.made c.in-Last.last (stands_now c.args.engine.now c.args.marks.now (row_at c.args.conflict.0 c.args.engine.now.held) c.loop-k.k c.args.deriv.now c.loop-k.deriv c.loop-k.made c.loop-k-test.true c.loop-k.invariant) s.0 s.1 s.2

pub returns-in-Last-clause-lays : goal.returns-in-Last-clause-lays
returns-in-Last-clause-lays c =
    let s = (subst (λ (s : Step). StepsTo c.args.engine.now (row_at c.args.conflict.0 c.args.engine.now.held) (c.loop-k.k - 1) c.loop-k.deriv c.take_step.new.deriv c.loop-k.made s) c.in-Last.is
    (c.in_ok-last.ensures.steps (row_at c.args.conflict.0 c.args.engine.now.held) (stands_now c.args.engine.now c.args.marks.now (row_at c.args.conflict.0 c.args.engine.now.held) c.loop-k.k c.args.deriv.now c.loop-k.deriv c.loop-k.made c.loop-k-test.true c.loop-k.invariant).walked.come)) in
    subst (Lays c.args.deriv.now) (sym s.0) c.loop-k.invariant.walked.lays

pub returns-in-Last-clause-few : goal.returns-in-Last-clause-few
returns-in-Last-clause-few c =
    let s = (subst (λ (s : Step). StepsTo c.args.engine.now (row_at c.args.conflict.0 c.args.engine.now.held) (c.loop-k.k - 1) c.loop-k.deriv c.take_step.new.deriv c.loop-k.made s) c.in-Last.is
    (c.in_ok-last.ensures.steps (row_at c.args.conflict.0 c.args.engine.now.held) (stands_now c.args.engine.now c.args.marks.now (row_at c.args.conflict.0 c.args.engine.now.held) c.loop-k.k c.args.deriv.now c.loop-k.deriv c.loop-k.made c.loop-k-test.true c.loop-k.invariant).walked.come)) in
    let same : c.take_step.new.deriv.state.next ≡ c.loop-k.deriv.state.next = ap (λ (d : Derived). d.state.next) s.0 in
    omega (arith, same, c.loop-k.invariant.walked.few)

pub loop-k-preserved : goal.loop-k-preserved
loop-k-preserved c =
    let s = (subst (λ (s : Step). StepsTo c.args.engine.now (row_at c.args.conflict.0 c.args.engine.now.held) (c.loop-k.k - 1) c.loop-k.deriv c.take_step.new.deriv c.loop-k.made s) c.in-More.is
    (c.in_ok-last.ensures.steps (row_at c.args.conflict.0 c.args.engine.now.held) (stands_now c.args.engine.now c.args.marks.now (row_at c.args.conflict.0 c.args.engine.now.held) c.loop-k.k c.args.deriv.now c.loop-k.deriv c.loop-k.made c.loop-k-test.true c.loop-k.invariant).walked.come)) in
    walks_on c.args.engine.now c.args.marks.now (row_at c.args.conflict.0 c.args.engine.now.held) (c.loop-k.k - 1) c.args.deriv.now c.loop-k.deriv c.take_step.new.deriv c.loop-k.made c.in-More.next (stands_now c.args.engine.now c.args.marks.now (row_at c.args.conflict.0 c.args.engine.now.held) c.loop-k.k c.args.deriv.now c.loop-k.deriv c.loop-k.made c.loop-k-test.true c.loop-k.invariant) s.0 s.1
