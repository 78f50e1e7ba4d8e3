use Rattle.analysis_tests.proofs.Learning.{moved_system}
use Rattle.analysis_tests.proofs.analyses.worked.Goals as goal

pub analyze-requires-clause-agree : goal.analyze-requires-clause-agree
analyze-requires-clause-agree g c =
    (moved_system c.in_ok-model.model c.in_ok-engine.engine c.conflict_after_one.new.engine c.in_ok-engine.deriv c.in_ok-engine.ensures.system c.conflict_after_one.ensures.vars c.conflict_after_one.ensures.held).agree
