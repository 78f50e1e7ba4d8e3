use Rattle.pb_search.proofs.Steps.{calm_restarts}
use Rattle.pb_search.proofs.laws.calm_restarts.Goals as goal

pub returns : goal.returns
returns c = calm_restarts
