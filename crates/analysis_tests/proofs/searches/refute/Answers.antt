use Rattle.std.proofs.Common.{◌∙◌, ap, arith}
use Rattle.pb_propagate.specs.Entries.{level_of}
use Rattle.pb_propagate.specs.Engines.{EngineState}
use Rattle.pb_propagate.proofs.Levels.{level-most}
use Rattle.analysis_tests.proofs.Learning.{moved_system}
use Rattle.analysis_tests.proofs.searches.refute.Goals as goal

pub descend-requires : goal.descend-requires
descend-requires g c = record { start = omega (arith, level-most 0 c.loop.engine.trail, ap (λ (e : EngineState). level_of e.trail) c.back_to.ensures) }

pub improve-requires : goal.improve-requires
improve-requires g c =
    moved_system c.args.model.now c.loop.engine c.descend.new.engine c.loop.deriv c.loop.invariant
    (c.descend.ensures.vars ∙ ap (λ (e : EngineState). e.vars) c.back_to.ensures) (c.descend.ensures.held ∙ ap (λ (e : EngineState). e.held) c.back_to.ensures)

pub learn-requires-clause-system : goal.learn-requires-clause-system
learn-requires-clause-system g c =
    moved_system c.args.model.now c.loop.engine c.descend.new.engine c.loop.deriv c.loop.invariant
    (c.descend.ensures.vars ∙ ap (λ (e : EngineState). e.vars) c.back_to.ensures) (c.descend.ensures.held ∙ ap (λ (e : EngineState). e.held) c.back_to.ensures)
