use Rattle.conflict_bound.proofs.Counted.{notes_few}
use Rattle.conflict_bound.proofs.learn_notes_are_few.Goals as goal

pub returns : goal.returns
returns c = notes_few
