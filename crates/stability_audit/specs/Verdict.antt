-- What an audit is asked, and what it answers.
use Rattle.std.specs.Prelude.{ℕ, ◌&&◌, nat_lt, nat_le, IsTrue, List, length, Option, Some, None}
use Rattle.std.specs.List.{find, list_all}
use Rattle.rank_tables.specs.Numbers.{below, numbers_to, is_distinct}
use Rattle.rank_tables.specs.Instance.{Lists, pair_count, capacity_of}
use Rattle.rank_tables.specs.Stability.{uses_of_resident, uses_of_hospital, blocks}
use Rattle.stability_audit.specs.declared.verdict.Verdict.{Verdict}
use Rattle.stability_audit.specs.declared.verdict.Verdict.TheVariants.{Stable, ResidentTwice, OverCapacity, Blocked}

-- For how many residents and hospitals an auditor was made.
pub record Sizes : Type 0 where
  pub residents : ℕ
  pub hospitals : ℕ

-- how many residents and hospitals there are
abbrev pub sizes_of : Lists → Sizes
sizes_of lists = record { residents = length lists.residents; hospitals = length lists.hospitals }

-- Distinct numbers of acceptable pairs.
pub record ArePairs (lists : Lists) (m : List ℕ) : Type 0 where
  pub distinct : IsTrue (is_distinct m)
  pub in_range : IsTrue (list_all (λ p. nat_le 1 p && nat_le p (pair_count lists)) m)

-- the least resident in two pairs of m
abbrev pub resident_twice : Lists → List ℕ → Option ℕ
resident_twice lists m = find (λ r. nat_le 2 (uses_of_resident lists m r)) (below (length lists.residents))

-- the least hospital in more pairs of m than it has posts
abbrev pub hospital_over : Lists → List ℕ → Option ℕ
hospital_over lists m = find (λ h. nat_lt (capacity_of lists h) (uses_of_hospital lists m h)) (below (length lists.hospitals))

-- the least pair that blocks m
abbrev pub blocking_pair : Lists → List ℕ → Option ℕ
blocking_pair lists m = find (blocks lists m) (numbers_to (pair_count lists))

-- the first of the three that there is
abbrev pub first_reason : Option ℕ → Option ℕ → Option ℕ → Verdict
first_reason (Some r) over blocking = ResidentTwice r
first_reason None (Some h) blocking = OverCapacity h
first_reason None None (Some p) = Blocked (record { 0 = p })
first_reason None None None = Stable

-- why m isn't weakly stable, or that it is
abbrev pub verdict_of : Lists → List ℕ → Verdict
verdict_of lists m = first_reason (resident_twice lists m) (hospital_over lists m) (blocking_pair lists m)
