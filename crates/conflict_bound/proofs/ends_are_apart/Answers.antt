use Rattle.conflict_bound.proofs.Stretches.{ends_apart}
use Rattle.conflict_bound.proofs.ends_are_apart.Goals as goal

pub returns : goal.returns
returns c = ends_apart
