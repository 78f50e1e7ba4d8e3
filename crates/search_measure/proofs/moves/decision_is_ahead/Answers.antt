use Rattle.search_measure.proofs.Moved.{decision_ahead}
use Rattle.search_measure.proofs.moves.decision_is_ahead.Goals as goal

pub returns : goal.returns
returns c = decision_ahead
