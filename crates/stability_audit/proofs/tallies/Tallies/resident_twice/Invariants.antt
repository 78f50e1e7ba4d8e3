-- The least among the residents of the pairs so far.
use Rattle.std.proofs.Common.{take, nat_le}
use Rattle.rank_tables.specs.Stability.{uses_of_resident}
use Rattle.rank_tables.specs.Tables.{numbers_of}
use Rattle.stability_audit.specs.Tallies.{resident_of}
use Rattle.stability_audit.proofs.Least.{IsLeast, owns}
use Rattle.stability_audit.proofs.tallies.Tallies.resident_twice.Given as goal

abbrev pub invariant-loop-pair : goal.invariant-loop-pair
invariant-loop-pair l =
    IsLeast (owns (λ r. nat_le 2 (uses_of_resident l.inst (numbers_of l.pairs) r)) (resident_of l.inst) (numbers_of (take l.pair-index l.pairs))) l.least
