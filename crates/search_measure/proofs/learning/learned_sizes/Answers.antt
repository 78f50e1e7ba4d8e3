use Rattle.search_measure.proofs.LearnedRows.{learned_sized}
use Rattle.search_measure.proofs.learning.learned_sizes.Goals as goal

pub returns : goal.returns
returns c = learned_sized
