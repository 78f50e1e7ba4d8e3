use Rattle.agreement.proofs.Growing.{grown}
use Rattle.agreement.proofs.laws.agreement_grows.Goals as goal

pub returns : goal.returns
returns c = grown
