-- What the pairs of a candidate make of each resident and of each hospital.
use Rattle.std.specs.Prelude.{◌≡◌, ◌<◌, ◌-◌, ℕ, Bool, not, ◌==◌, ◌&&◌, ◌||◌, nat_lt, List, length, count_by, slice_index}
use Rattle.std.specs.List.{list_all, list_any}
use Rattle.rank_tables.specs.Instance.{Lists, capacity_of, pair_at, rank_by_hospital, rank_by_resident}

-- the rank is strictly higher than the best one, where there is one; 0 stands for none
abbrev pub is_above : ℕ → ℕ → Bool
is_above best x = best == 0 || nat_lt x best

-- nobody has a rank
abbrev pub AreNone : List ℕ → Type 0
AreNone ranks = (k : ℕ) → k < length ranks → slice_index ranks k ≡ 0

-- each hospital has all its posts
abbrev pub AreFree : Lists → List ℕ → Type 0
AreFree lists free = (h : ℕ) → h < length lists.hospitals → slice_index free h ≡ capacity_of lists h

-- the tables have a place for each resident and for each hospital
pub record AreRoom (lists : Lists) (best worst free : List ℕ) : Type 0 where
  pub residents : length best ≡ length lists.residents
  pub hospitals : length worst ≡ length lists.hospitals
  pub posts : length free ≡ length lists.hospitals

-- what is ranked above the best rank that an owner has among the pairs is ranked above each that it has; the owners are those below count
abbrev pub AreBest : (ℕ → ℕ) → (ℕ → ℕ) → List ℕ → ℕ → List ℕ → Type 0
AreBest owner rank m count best = (k x : ℕ) → k < count → list_all (λ q. not (owner q == k) || nat_lt x (rank q)) m ≡ is_above (slice_index best k) x

-- what is ranked above the worst rank that an owner has among the pairs is ranked above one that it has
abbrev pub AreWorst : (ℕ → ℕ) → (ℕ → ℕ) → List ℕ → ℕ → List ℕ → Type 0
AreWorst owner rank m count worst = (k x : ℕ) → k < count → list_any (λ q. owner q == k && nat_lt x (rank q)) m ≡ nat_lt x (slice_index worst k)

-- how many of its posts each owner has left
abbrev pub AreLeft : (ℕ → ℕ) → (ℕ → ℕ) → List ℕ → ℕ → List ℕ → Type 0
AreLeft owner posts m count free = (k : ℕ) → k < count → slice_index free k ≡ posts k - count_by (λ q. owner q == k) m

-- the tables are those of the pairs
pub record ArePosts (lists : Lists) (m : List ℕ) (best worst free : List ℕ) : Type 0 where
  pub room : AreRoom lists best worst free
  pub bests : AreBest (λ q. (pair_at lists q).resident) (rank_by_resident lists) m (length lists.residents) best
  pub worsts : AreWorst (λ q. (pair_at lists q).hospital) (rank_by_hospital lists) m (length lists.hospitals) worst
  pub left : AreLeft (λ q. (pair_at lists q).hospital) (capacity_of lists) m (length lists.hospitals) free

-- ---- for whom tables are

-- for how many residents and hospitals they were made
pub record Sizes : Type 0 where
  pub residents : ℕ
  pub hospitals : ℕ

-- how many residents and hospitals there are
abbrev pub sizes_of : Lists → Sizes
sizes_of lists = record { residents = length lists.residents; hospitals = length lists.hospitals }
