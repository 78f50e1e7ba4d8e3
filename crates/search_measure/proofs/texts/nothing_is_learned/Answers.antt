use Rattle.search_measure.proofs.Learned.{nothing_learned}
use Rattle.search_measure.proofs.texts.nothing_is_learned.Goals as goal

pub returns : goal.returns
returns c = nothing_learned
