use Rattle.search_measure.proofs.Agreeing.{note_true}
use Rattle.search_measure.proofs.learning.learn_notes_are_true.Goals as goal

pub returns : goal.returns
returns c = note_true
