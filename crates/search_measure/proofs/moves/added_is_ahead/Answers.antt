use Rattle.search_measure.proofs.Moved.{added_ahead}
use Rattle.search_measure.proofs.moves.added_is_ahead.Goals as goal

pub returns : goal.returns
returns c = added_ahead
