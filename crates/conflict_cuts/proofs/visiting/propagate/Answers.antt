use Rattle.conflict_cuts.proofs.Steps.{conflict-refuted, propagated-then, quiet-not_refuted, reaches-conflict, reaches-quiet}
use Rattle.conflict_cuts.proofs.visiting.propagate.Goals as goal

pub returns-in_default-clause-comes : goal.returns-in_default-clause-comes
returns-in_default-clause-comes g c =
    reaches-quiet c.args.engine.now c.loop-due.engine c.loop-due.invariant.propagated c.due.ensures.order c.in_default.ensures.none c.in_default.ensures.kept

pub returns-in_default-clause-refuted : goal.returns-in_default-clause-refuted
returns-in_default-clause-refuted g c = (
  λ never. absurd never,
  quiet-not_refuted c.args.engine.now c.loop-due.engine (reaches-quiet c.args.engine.now c.loop-due.engine c.loop-due.invariant.propagated c.due.ensures.order c.in_default.ensures.none c.in_default.ensures.kept),
)

pub loop-due-preserved : goal.loop-due-preserved
loop-due-preserved g c = record {
  propagated = propagated-then c.args.engine.now c.loop-due.engine c.visit.new.engine c.loop-due.invariant.propagated c.in-Done.ensures.propagated;
  below = c.in-Done.ensures.below;
}

pub returns-in-Falsified-clause-comes : goal.returns-in-Falsified-clause-comes
returns-in-Falsified-clause-comes g c =
    reaches-conflict c.args.engine.now c.loop-due.engine c.visit.new.engine c.in-Falsified.place.0 c.loop-due.invariant.propagated c.in-Falsified.ensures

pub returns-in-Falsified-clause-refuted : goal.returns-in-Falsified-clause-refuted
returns-in-Falsified-clause-refuted g c = (
  λ one. conflict-refuted c.args.engine.now c.visit.new.engine c.in-Falsified.place.0
      (reaches-conflict c.args.engine.now c.loop-due.engine c.visit.new.engine c.in-Falsified.place.0 c.loop-due.invariant.propagated c.in-Falsified.ensures),
  λ refuted. tt,
)
