use Rattle.pb_search.proofs.Steps.{meets_conflict}
use Rattle.pb_search.proofs.laws.search_meets_conflict.Goals as goal

pub returns : goal.returns
returns c = meets_conflict
