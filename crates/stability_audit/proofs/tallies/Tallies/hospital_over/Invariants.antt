-- The least among the hospitals of the pairs so far.
use Rattle.std.proofs.Common.{take, nat_lt}
use Rattle.rank_tables.specs.Instance.{capacity_of}
use Rattle.rank_tables.specs.Stability.{uses_of_hospital}
use Rattle.rank_tables.specs.Tables.{numbers_of}
use Rattle.stability_audit.specs.Tallies.{hospital_of}
use Rattle.stability_audit.proofs.Least.{IsLeast, owns}
use Rattle.stability_audit.proofs.tallies.Tallies.hospital_over.Given as goal

abbrev pub invariant-loop-pair : goal.invariant-loop-pair
invariant-loop-pair l =
    IsLeast (owns (λ h. nat_lt (capacity_of l.inst h) (uses_of_hospital l.inst (numbers_of l.pairs) h)) (hospital_of l.inst) (numbers_of (take l.pair-index l.pairs))) l.least
