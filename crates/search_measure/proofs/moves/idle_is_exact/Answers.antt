use Rattle.search_measure.proofs.Moved.{idle_exact}
use Rattle.search_measure.proofs.moves.idle_is_exact.Goals as goal

pub returns : goal.returns
returns c = idle_exact
