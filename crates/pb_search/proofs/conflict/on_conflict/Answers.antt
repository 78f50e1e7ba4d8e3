use Rattle.std.proofs.Common.{ap, sym, subst, ◌∙◌, arith}
use Rattle.std.proofs.lemmas.Bool.{false_from_ne_true}
use Rattle.proof_rules.specs.Held.{Held, is_held}
use Rattle.row_arena.specs.Held.{row_at}
use Rattle.agreement.proofs.Growing.{derivations_followed}
use Rattle.agreement.proofs.Lines.{cuts_leave}
use Rattle.conflict_cuts.specs.Learned.{Learns}
use Rattle.conflict_cuts.proofs.Analyzed.{below_next}
use Rattle.pb_search.proofs.Following.{learn_follows, root_follows, spent_follows}
use Rattle.pb_search.proofs.conflict.on_conflict.Goals as goal
use Rattle.pb_search.proofs.conflict.on_conflict.Goals.{else-level-gt0-via-then-level-gt0+else-learned-limits, else-level-gt0-via-else-level-gt0}

pub returns-then-learned-limits-clause-follows : goal.returns-then-learned-limits-clause-follows
returns-then-learned-limits-clause-follows c =
    spent_follows c.args.limits.now c.args.engine.now c.args.deriv.now c.next-next.ensures.in_order (omega (arith, c.level.ensures.value, c.if-level-gt0.true)) (sym c.learned.ensures ∙ c.if-learned-limits.true)

pub learn-requires-clause-agree : goal.learn-requires-clause-agree
learn-requires-clause-agree c =
    derivations_followed c.args.engine.now c.args.deriv.now c.analyze.new.deriv c.requires.joined.agree (cuts_leave c.args.engine.now c.args.deriv.now c.analyze.new.deriv c.requires.joined.agree c.next-next.ensures.in_order c.analyze.ensures.lines.lines)

pub learn-requires-clause-free : goal.learn-requires-clause-free
learn-requires-clause-free c =
    let d = c.args.deriv.now in
    let conflict = row_at c.args.conflict.0 c.args.engine.now.held in
    let learned = subst (Learns c.args.engine.now conflict d c.analyze.new.deriv) c.in-Clause.is c.in_ok-analyze.ensures.learned in
    ap (λ (h : Held). is_held h c.in-Clause.id.0) c.analyze.ensures.lines.held
    ∙ false_from_ne_true (is_held d.held c.in-Clause.id.0) (λ h.
    let below = below_next c.in-Clause.id.0 d.state.next d.state.live c.next-next.ensures.in_order (c.requires.joined.ready.held_live c.in-Clause.id.0 h) in
    omega (arith, below, learned.left.later))

pub returns-in-Root-clause-follows : goal.returns-in-Root-clause-follows
returns-in-Root-clause-follows c =
    let conflict = row_at c.args.conflict.0 c.args.engine.now.held in
    let root = subst (Learns c.args.engine.now conflict c.args.deriv.now c.analyze.new.deriv) c.in-Root.is c.in_ok-analyze.ensures.learned in
    root_follows c.cuts_stay_lawful.ensures c.args.limits.now c.args.engine.now c.args.engine.now c.args.deriv.now c.analyze.new.deriv c.in-Root.field-0 c.next-next.ensures.in_order c.analyze.ensures.lines root

pub returns-in-Root-clause-stops : goal.returns-in-Root-clause-stops
returns-in-Root-clause-stops c above spent =
    absurd (elim c.else-level-gt0.branch [
      | else-level-gt0-via-then-level-gt0+else-learned-limits w ↦ w.if-learned-limits.false (w.learned.ensures ∙ spent)
      | else-level-gt0-via-else-level-gt0 w ↦ omega (arith, w.if-level-gt0.false, c.level.ensures.value, above)
    ])

pub returns-in_ok-learn-in-Clause-clause-follows : goal.returns-in_ok-learn-in-Clause-clause-follows
returns-in_ok-learn-in-Clause-clause-follows c =
    let conflict = row_at c.args.conflict.0 c.args.engine.now.held in
    let learned = subst (Learns c.args.engine.now conflict c.args.deriv.now c.analyze.new.deriv) c.in-Clause.is c.in_ok-analyze.ensures.learned in
    learn_follows c.cuts_stay_lawful.ensures c.args.limits.now conflict c.in-Clause.level c.in-Clause.id c.in-Clause.row c.in-Clause.asserts c.args.engine.now c.learn.new.engine c.args.deriv.now c.analyze.new.deriv c.learn.new.deriv
    c.level.ensures.order c.next-next.ensures.in_order c.next-made.ensures.in_order c.analyze.ensures.lines learned c.in_ok-learn-in-Clause.ensures
    (λ above spent. elim c.else-level-gt0.branch [
      | else-level-gt0-via-then-level-gt0+else-learned-limits w ↦ w.if-learned-limits.false (w.learned.ensures ∙ spent)
      | else-level-gt0-via-else-level-gt0 w ↦ omega (arith, w.if-level-gt0.false, c.level.ensures.value, above)
    ])

pub returns-in_ok-learn-in-Clause-clause-stops : goal.returns-in_ok-learn-in-Clause-clause-stops
returns-in_ok-learn-in-Clause-clause-stops c above spent =
    absurd (elim c.else-level-gt0.branch [
      | else-level-gt0-via-then-level-gt0+else-learned-limits w ↦ w.if-learned-limits.false (w.learned.ensures ∙ spent)
      | else-level-gt0-via-else-level-gt0 w ↦ omega (arith, w.if-level-gt0.false, c.level.ensures.value, above)
    ])
