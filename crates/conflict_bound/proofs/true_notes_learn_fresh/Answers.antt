use Rattle.conflict_bound.proofs.Counted.{notes_fresh}
use Rattle.conflict_bound.proofs.true_notes_learn_fresh.Goals as goal

pub returns : goal.returns
returns c = notes_fresh
