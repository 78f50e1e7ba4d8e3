use Rattle.pb_propagate.specs.Engines.{AreKeptBelow}
use Rattle.conflict_cuts.specs.Exact.{IsPropagated}
use Rattle.conflict_cuts.specs.Rounds.{work}
use Rattle.conflict_cuts.proofs.visiting.propagate.Given as goal

abbrev pub invariant-loop-due : goal.invariant-loop-due
invariant-loop-due g l = record {
  propagated : IsPropagated l.fn.engine l.engine;
  below : AreKeptBelow l.engine;
}

abbrev pub decreases-loop-due : goal.decreases-loop-due
decreases-loop-due g l = work l.engine
