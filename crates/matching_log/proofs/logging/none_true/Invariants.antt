use Rattle.std.proofs.Common.{◌≡◌, false, replicate}
use Rattle.matching_log.proofs.logging.none_true.Given as goal

abbrev pub invariant-loop : goal.invariant-loop
invariant-loop l = l.point.items ≡ replicate l.counter false
