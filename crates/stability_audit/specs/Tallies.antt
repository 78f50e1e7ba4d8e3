-- The tables of an audit: what a list of pairs makes of each resident and each hospital.
use Rattle.std.specs.Prelude.{◌≡◌, ℕ, ◌+◌, ◌<◌, Bool, ◌&&◌, ◌||◌, ◌==◌, nat_lt, min, max, if◌then◌else◌, Option, Some, None, List, [], ◌∷◌, length, slice_index_or}
use Rattle.rank_tables.specs.Instance.{Lists, pair_at, capacity_of, rank_by_resident, rank_by_hospital}
use Rattle.stability_audit.specs.declared.tally.Tally.{Tally}

-- what no pair makes of anyone
abbrev pub empty_tally : Tally
empty_tally = record { count = 0; worst = 0 }

-- with one pair more, in which it gives this rank
abbrev pub one_more : Tally → ℕ → Tally
one_more tally rank = record { count = tally.count + 1; worst = max tally.worst rank }

-- it has fewer pairs than places, or its worst pair is ranked lower than this rank
abbrev pub wants : Tally → ℕ → ℕ → Bool
wants tally places rank = nat_lt tally.count places || nat_lt rank tally.worst

-- what the pairs m make of k: owner says whose each pair is, and rank what rank its owner gives in it
abbrev pub tally_of : (ℕ → ℕ) → (ℕ → ℕ) → List ℕ → ℕ → Tally
tally_of owner rank [] k = empty_tally
tally_of owner rank (q ∷ m) k =
    if owner q == k then one_more (tally_of owner rank m k) (rank q) else tally_of owner rank m k

-- Of each k below count, the table has what the pairs m make of it.
pub record IsTallied (owner rank : ℕ → ℕ) (m : List ℕ) (count : ℕ) (table : List Tally) : Type 0 where
  pub size : length table ≡ count
  pub each : (k : ℕ) → k < count → slice_index_or table k empty_tally ≡ tally_of owner rank m k

-- the resident of a pair
abbrev pub resident_of : Lists → ℕ → ℕ
resident_of lists q = (pair_at lists q).resident

-- the hospital of a pair
abbrev pub hospital_of : Lists → ℕ → ℕ
hospital_of lists q = (pair_at lists q).hospital

-- Both tables of an audit of the pairs m.
pub record AreTallied (lists : Lists) (m : List ℕ) (residents hospitals : List Tally) : Type 0 where
  pub of_residents : IsTallied (resident_of lists) (rank_by_resident lists) m (length lists.residents) residents
  pub of_hospitals : IsTallied (hospital_of lists) (rank_by_hospital lists) m (length lists.hospitals) hospitals

-- nothing stands in the table
abbrev pub IsClear : List Tally → Type 0
IsClear table = (k : ℕ) → slice_index_or table k empty_tally ≡ empty_tally

-- by the tables, the resident and the hospital of p both want it
abbrev pub both_want : Lists → List Tally → List Tally → ℕ → Bool
both_want lists residents hospitals p =
    wants (slice_index_or residents (resident_of lists p) empty_tally) 1 (rank_by_resident lists p)
    && wants (slice_index_or hospitals (hospital_of lists p) empty_tally) (capacity_of lists (hospital_of lists p)) (rank_by_hospital lists p)

-- the lesser of two numbers, where there is a first
abbrev pub lesser : Option ℕ → ℕ → ℕ
lesser None number = number
lesser (Some least) number = min least number
