use Rattle.analysis_tests.proofs.Deciding.{decided_kept, kept_idle}
use Rattle.analysis_tests.proofs.searches.decide.Goals as goal

pub returns-clause-kept : goal.returns-clause-kept
returns-clause-kept c = decided_kept c.args.engine.now c.decide.new.self c.args.lit (kept_idle c.args.engine.now c.due-due.result c.requires.idle c.due-due.ensures.due c.due-due.ensures.kept) c.decide.ensures
