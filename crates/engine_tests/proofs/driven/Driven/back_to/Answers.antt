use Rattle.std.proofs.Common.{ap}
use Rattle.pb_propagate.specs.Engines.{EngineState}
use Rattle.engine_tests.proofs.Below.{below-back}
use Rattle.engine_tests.proofs.driven.Driven.back_to.Goals as goal

pub invariant_of-self : goal.invariant_of-self
invariant_of-self c =
    below-back c.self.inside.engine c.back_to.new.self c.args.level (ap (λ (e : EngineState). e.held) c.back_to.ensures) (ap (λ (e : EngineState). e.trail) c.back_to.ensures) c.self.invariant
