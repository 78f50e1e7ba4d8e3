use Rattle.pb_search.proofs.Steps.{spent_small}
use Rattle.pb_search.proofs.laws.spent_budget_is_small.Goals as goal

pub returns : goal.returns
returns c = spent_small
