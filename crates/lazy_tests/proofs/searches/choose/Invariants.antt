use Rattle.agreement.specs.Kept.{HoldsSameRows}
use Rattle.lazy_tests.proofs.searches.choose.Given as goal

abbrev pub invariant-loop-k : goal.invariant-loop-k
invariant-loop-k g l = HoldsSameRows l.fn.engine l.engine
