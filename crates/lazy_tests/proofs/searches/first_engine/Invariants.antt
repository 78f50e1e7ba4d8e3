use Rattle.lazy_tests.proofs.Starting.{HoldsBelow}
use Rattle.lazy_tests.proofs.searches.first_engine.Given as goal

abbrev pub invariant-loop-k : goal.invariant-loop-k
invariant-loop-k l = HoldsBelow l.model l.k l.engine
