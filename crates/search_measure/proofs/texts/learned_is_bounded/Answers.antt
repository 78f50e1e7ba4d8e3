use Rattle.search_measure.proofs.Learned.{learned_bounded}
use Rattle.search_measure.proofs.texts.learned_is_bounded.Goals as goal

pub returns : goal.returns
returns c = learned_bounded
