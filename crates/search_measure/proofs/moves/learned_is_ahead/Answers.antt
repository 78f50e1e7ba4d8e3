use Rattle.search_measure.proofs.Moved.{learned_ahead}
use Rattle.search_measure.proofs.moves.learned_is_ahead.Goals as goal

pub returns : goal.returns
returns c = learned_ahead
