use Rattle.search_measure.proofs.Moved.{restarts_level}
use Rattle.search_measure.proofs.moves.restarts_level.Goals as goal

pub returns : goal.returns
returns c = restarts_level
