use Rattle.search_measure.proofs.Recorded.{learn_nothing}
use Rattle.search_measure.proofs.texts.uncounted_learn_nothing.Goals as goal

pub returns : goal.returns
returns c = learn_nothing
