use Rattle.lazy_stability.proofs.Matched.{first_at_start}
use Rattle.lazy_stability.proofs.laws.starts_hold_first.Goals as goal

pub returns : goal.returns
returns c = first_at_start
