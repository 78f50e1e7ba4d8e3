use Rattle.agreement.specs.Kept.{HoldsSameRows}
use Rattle.lazy_tests.proofs.searches.settle.Given as goal

abbrev pub invariant-visits : goal.invariant-visits
invariant-visits g l = HoldsSameRows l.fn.engine l.engine
