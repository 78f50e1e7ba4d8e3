-- The ranks of some pairs of a list.
use Rattle.std.specs.Prelude.{◌≡◌, ℕ, ◌&&◌, nat_le, List, count_by}
use Rattle.std.specs.List.Sorted.{IsNonDecreasing}
use Rattle.rank_tables.specs.Instance.{Lists}
use Rattle.stability_model.specs.Gone.{Pairs}
use Rattle.pair_reduction.specs.declared.sides.Side.{Side}
use Rattle.pair_reduction.specs.Sides.{rank_on}

-- how many of these numbers are at most r
abbrev pub count_within : List ℕ → ℕ → ℕ
count_within ranks r = count_by (λ x. nat_le x r) ranks

-- these are the ranks of the marked pairs among some, in any order
abbrev pub AreRanks : Side → Lists → Pairs → List ℕ → List ℕ → Type 0
AreRanks side lists marked ps ranks = (r : ℕ) → count_within ranks r ≡ count_by (λ q. marked q && nat_le (rank_on side lists q) r) ps

-- these are the ranks of the marked pairs among some, rising
pub record AreRisingRanks (side : Side) (lists : Lists) (marked : Pairs) (ps ranks : List ℕ) : Type 0 where
  pub rising : IsNonDecreasing ranks
  pub ranks_are : AreRanks side lists marked ps ranks
