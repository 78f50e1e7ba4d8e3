use Rattle.pb_search.proofs.Steps.{decides}
use Rattle.pb_search.proofs.laws.calm_decides.Goals as goal

pub returns : goal.returns
returns c = decides
