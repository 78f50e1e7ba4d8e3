use Rattle.agreement.proofs.Lines.{steps_leave}
use Rattle.agreement.proofs.laws.steps_leave_held.Goals as goal

pub returns : goal.returns
returns c = steps_leave
