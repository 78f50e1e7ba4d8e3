use Rattle.search_measure.proofs.Learned.{later_learned}
use Rattle.search_measure.proofs.texts.later_row_is_learned.Goals as goal

pub returns : goal.returns
returns c = later_learned
