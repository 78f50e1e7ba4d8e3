use Rattle.agreement.proofs.Lines.{cuts_leave}
use Rattle.agreement.proofs.laws.cuts_leave_held.Goals as goal

pub returns : goal.returns
returns c = cuts_leave
