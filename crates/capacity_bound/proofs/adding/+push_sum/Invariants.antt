use Rattle.std.proofs.Common.{length}
use Rattle.capacity_bound.proofs.adding.+push_sum.Given as goal

abbrev pub decreases-push_sum : goal.decreases-push_sum
decreases-push_sum l = length l.operands.now
