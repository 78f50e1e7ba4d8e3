use Rattle.search_measure.proofs.Learned.{restart_ends}
use Rattle.search_measure.proofs.texts.restart_ends_stretch.Goals as goal

pub returns : goal.returns
returns c = restart_ends
