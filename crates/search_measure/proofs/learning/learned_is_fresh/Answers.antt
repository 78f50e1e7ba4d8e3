use Rattle.search_measure.proofs.LearnedRows.{learned_fresh}
use Rattle.search_measure.proofs.learning.learned_is_fresh.Goals as goal

pub returns : goal.returns
returns c = learned_fresh
