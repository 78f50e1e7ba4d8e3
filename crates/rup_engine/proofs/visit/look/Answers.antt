use Rattle.hrt_base.specs.declared.literal.Term.{Term}
use Rattle.pb_rows.specs.Terms.{IsPositive}
use Rattle.pb_rows.specs.Points.{IsCovered}
use Rattle.pb_rows.proofs.Order.{rising_positive}
use Rattle.rup_engine.proofs.Picking.{steady-bound, steady-heads}
use Rattle.rup_engine.proofs.Taking.{all-within}
use Rattle.rup_engine.proofs.visit.look.Goals as goal

pub returns-then-slot-sum-clause-steady : goal.returns-then-slot-sum-clause-steady
returns-then-slot-sum-clause-steady c = λ _. steady-bound _ _ _ _ _ _ c.requires.short c.if-slot-sum.true

pub propagate-requires-clause-within : goal.propagate-requires-clause-within
propagate-requires-clause-within c = rw (c.deref.ensures.value, c.terms-terms.ensures.terms) c.requires.short.within

pub propagate-requires-clause-positive : goal.propagate-requires-clause-positive
propagate-requires-clause-positive c =
    rw c.deref.ensures.value (all-within (λ (t : Term). IsPositive t.coef) _ _ c.requires.short.within (rising_positive 0 _ c.terms-terms.ensures.normal.rising))

pub propagate-requires-clause-covered : goal.propagate-requires-clause-covered
propagate-requires-clause-covered c =
    rw c.deref.ensures.value (all-within (λ (t : Term). IsCovered c.args.trail.now.vars t.lit.var) _ _ c.requires.short.within c.requires.over)

pub returns-then-slot-sum-2-clause-steady : goal.returns-then-slot-sum-2-clause-steady
returns-then-slot-sum-2-clause-steady c =
    let settled = rw (c.deref.ensures.value, c.degree_of-degree.ensures) at c.in_ok-propagate.ensures.settled in
    λ _. steady-heads _ _ _ _ _ _ c.requires.short c.if-slot-sum-2.true settled

pub returns-then-slot-sum-2-clause-sound : goal.returns-then-slot-sum-2-clause-sound
returns-then-slot-sum-2-clause-sound c = rw (c.terms-terms.ensures.terms, c.degree_of-degree.ensures) at c.in_ok-propagate.ensures.sound

pub advance-requires-clause-positive : goal.advance-requires-clause-positive
advance-requires-clause-positive c = rw c.terms-terms.ensures.terms (rising_positive 0 _ c.terms-terms.ensures.normal.rising)

pub returns-clause-steady : goal.returns-clause-steady
returns-clause-steady c = rw (c.terms-terms.ensures.terms, c.degree_of-degree.ensures) at c.in_ok-falsified.ensures.steady

pub returns-clause-sound : goal.returns-clause-sound
returns-clause-sound c = rw (c.terms-terms.ensures.terms, c.degree_of-degree.ensures) at c.in_ok-falsified.ensures.sound
