use Rattle.agreement.proofs.Lines.{deletions_leave}
use Rattle.agreement.proofs.laws.deletions_leave_held.Goals as goal

pub returns : goal.returns
returns c = deletions_leave
