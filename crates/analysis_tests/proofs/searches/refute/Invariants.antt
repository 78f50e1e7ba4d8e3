use Rattle.analysis_tests.specs.Systems.{IsSystem}
use Rattle.analysis_tests.proofs.searches.refute.Given as goal

abbrev pub invariant-loop : goal.invariant-loop
invariant-loop g l = IsSystem l.fn.model l.engine l.deriv
