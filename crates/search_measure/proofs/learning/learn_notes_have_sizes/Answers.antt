use Rattle.search_measure.proofs.Agreeing.{note_sized}
use Rattle.search_measure.proofs.learning.learn_notes_have_sizes.Goals as goal

pub returns : goal.returns
returns c = note_sized
