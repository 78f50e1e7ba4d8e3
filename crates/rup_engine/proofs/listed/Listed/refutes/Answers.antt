use Rattle.std.proofs.Common.{sym, subst, refl}
use Rattle.propagation.specs.Following.{IsOver}
use Rattle.rup_engine.specs.Live.{LiveRows}
use Rattle.rup_engine.proofs.Closings.{implied-rows}
use Rattle.rup_engine.proofs.Opposites.{opposite_over}
use Rattle.rup_engine.proofs.listed.Listed.refutes.Goals as goal

pub contradicts-answer-requires-clause-over : goal.contradicts-answer-requires-clause-over
contradicts-answer-requires-clause-over c =
    let over = subst (λ (l : LiveRows). IsOver l.vars c.args.row.now) (sym c.self.view_is) c.requires in
    rw c.in_ok-opposite.ensures (opposite_over _ c.args.row.now over)

pub returns-then-branch-clause-implied : goal.returns-then-branch-clause-implied
returns-then-branch-clause-implied c =
    let shown = rw (c.if-branch.true, c.in_ok-opposite.ensures) at c.in_ok-answer.ensures.outcome in
    rw (← c.self.view_is) (λ _. implied-rows _ _ _ shown, λ _. refl)

pub returns-then-branch-clause-used : goal.returns-then-branch-clause-used
returns-then-branch-clause-used c =
    let shown = rw (c.if-branch.true, c.in_ok-opposite.ensures) at c.in_ok-answer.ensures.outcome in
    rw (← c.self.view_is) shown.refuted

pub returns-then-branch-clause-numbers : goal.returns-then-branch-clause-numbers
returns-then-branch-clause-numbers c =
    let shown = rw (c.if-branch.true, c.in_ok-opposite.ensures) at c.in_ok-answer.ensures.outcome in
    rw (← c.self.view_is) shown.live

pub returns-clause-implied : goal.returns-clause-implied
returns-clause-implied c =
    let shown = rw (c.if-branch.false, c.in_ok-opposite.ensures) at c.in_ok-answer.ensures.outcome in
    rw (← c.self.view_is) (λ e. absurd (cc), λ h. absurd (shown h))
