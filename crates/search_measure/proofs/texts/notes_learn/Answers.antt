use Rattle.search_measure.proofs.Recorded.{notes_learn}
use Rattle.search_measure.proofs.texts.notes_learn.Goals as goal

pub returns : goal.returns
returns c = notes_learn
