use Rattle.std.proofs.Common.{ap}
use Rattle.pb_propagate.specs.Engines.{EngineState}
use Rattle.engine_tests.proofs.Below.{below-decided}
use Rattle.engine_tests.proofs.driven.decide.Goals as goal

pub returns-in-Free : goal.returns-in-Free
returns-in-Free c =
    below-decided c.args.engine.now c.decide.new.self c.args.lit (ap (λ (e : EngineState). e.held) c.decide.ensures) (ap (λ (e : EngineState). e.trail) c.decide.ensures) c.in-None.ensures.kept
