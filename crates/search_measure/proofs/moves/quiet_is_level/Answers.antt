use Rattle.search_measure.proofs.Moved.{quiet_level}
use Rattle.search_measure.proofs.moves.quiet_is_level.Goals as goal

pub returns : goal.returns
returns c = quiet_level
