use Rattle.search_measure.proofs.Moved.{starts_ahead}
use Rattle.search_measure.proofs.moves.starts_ahead.Goals as goal

pub returns : goal.returns
returns c = starts_ahead
