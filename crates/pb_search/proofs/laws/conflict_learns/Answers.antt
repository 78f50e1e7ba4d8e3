use Rattle.pb_search.proofs.Steps.{learns}
use Rattle.pb_search.proofs.laws.conflict_learns.Goals as goal

pub returns : goal.returns
returns c = learns
