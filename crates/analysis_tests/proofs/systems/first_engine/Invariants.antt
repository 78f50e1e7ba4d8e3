use Rattle.analysis_tests.proofs.Starting.{HasFirst}
use Rattle.analysis_tests.proofs.systems.first_engine.Given as goal

abbrev pub invariant-loop-k : goal.invariant-loop-k
invariant-loop-k l = HasFirst l.fn.model l.fn.deriv l.engine l.k
