use Rattle.search_measure.proofs.Moved.{conflict_later}
use Rattle.search_measure.proofs.moves.conflict_keeps_later.Goals as goal

pub returns : goal.returns
returns c = conflict_later
