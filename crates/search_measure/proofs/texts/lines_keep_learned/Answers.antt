use Rattle.search_measure.proofs.Learned.{lines_keep}
use Rattle.search_measure.proofs.texts.lines_keep_learned.Goals as goal

pub returns : goal.returns
returns c = lines_keep
