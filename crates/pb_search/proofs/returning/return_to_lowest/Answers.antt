use Rattle.std.proofs.Common.{ap}
use Rattle.pb_propagate.specs.Engines.{EngineState}
use Rattle.pb_search.proofs.GoingBack.{goes_back}
use Rattle.pb_search.proofs.returning.return_to_lowest.Goals as goal

pub returns : goal.returns
returns c =
    goes_back c.args.places.now c.args.engine.now c.back_to.new.self c.lowest_level-level.result c.requires.some c.requires.broken c.lowest_level-level.ensures (ap (λ (e : EngineState). e.vars) c.back_to.ensures) (ap (λ (e : EngineState). e.held) c.back_to.ensures)
    (ap (λ (e : EngineState). e.trail) c.back_to.ensures)
