use Rattle.engine_tests.proofs.Below.{below-comes}
use Rattle.engine_tests.proofs.driven.Driven.propagate.Goals as goal

pub invariant_of-self : goal.invariant_of-self
invariant_of-self g c = below-comes c.self.inside.engine c.propagate.new.engine c.propagate.result c.propagate.ensures.comes
