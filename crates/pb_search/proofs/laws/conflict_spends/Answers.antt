use Rattle.pb_search.proofs.Steps.{spends}
use Rattle.pb_search.proofs.laws.conflict_spends.Goals as goal

pub returns : goal.returns
returns c = spends
