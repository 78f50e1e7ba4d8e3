use Rattle.std.proofs.Common.{◌≡◌, length, take}
use Rattle.matching_log.specs.Logged.{IsPointOf}
use Rattle.matching_log.proofs.logging.point_of.Given as goal

abbrev pub invariant-loop-p : goal.invariant-loop-p
invariant-loop-p l = record { full : length l.point.items ≡ l.vars; marked : IsPointOf l.vars (take l.p-index l.pairs) l.point.items }
