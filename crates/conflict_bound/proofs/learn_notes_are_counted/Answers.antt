use Rattle.conflict_bound.proofs.Counted.{notes_counted}
use Rattle.conflict_bound.proofs.learn_notes_are_counted.Goals as goal

pub returns : goal.returns
returns c = notes_counted
