-- Both sides of an instance in the same words: lists of residents and lists of hospitals.
use Rattle.std.specs.Prelude.{◌≡◌, ℕ, Bool, not, ◌&&◌, ◌==◌, nat_lt, nat_le, List, length, count_by}
use Rattle.rank_tables.specs.Instance.{Lists, capacity_of, pair_at, rising_pairs_of_hospital, pairs_of_resident, rank_by_hospital, rank_by_resident}
use Rattle.rank_tables.specs.Tables.{IsPairNo}
use Rattle.stability_model.specs.Gone.{Pairs}
use Rattle.pair_reduction.specs.declared.sides.Side.{Side}
use Rattle.pair_reduction.specs.declared.sides.Side.TheVariants.{Resident, Hospital}

-- the opposite side: hospitals for residents, and residents for hospitals
abbrev pub other : Side → Side
other Resident = Hospital
other Hospital = Resident

-- how many lists a side has
abbrev pub list_count : Side → Lists → ℕ
list_count Resident lists = length lists.residents
list_count Hospital lists = length lists.hospitals

-- the number of the list in which a pair stands
abbrev pub list_of : Side → Lists → ℕ → ℕ
list_of Resident lists p = (pair_at lists p).resident
list_of Hospital lists p = (pair_at lists p).hospital

-- the pairs of a list, rising
abbrev pub pairs_on : Side → Lists → ℕ → List ℕ
pairs_on Resident lists n = pairs_of_resident lists n
pairs_on Hospital lists n = rising_pairs_of_hospital lists n

-- p is the number of a pair of this list
pub record IsOn (side : Side) (lists : Lists) (n p : ℕ) : Type 0 where
  pub number : IsPairNo lists p
  pub list : list_of side lists p ≡ n

-- the rank of a pair in its list
abbrev pub rank_on : Side → Lists → ℕ → ℕ
rank_on Resident lists p = rank_by_resident lists p
rank_on Hospital lists p = rank_by_hospital lists p

-- how many pairs of a list a matching may have: one of a resident, and of a hospital as many as it has posts
abbrev pub places : Side → Lists → ℕ → ℕ
places Resident lists n = 1
places Hospital lists n = capacity_of lists n

-- A pair is free on a side: fewer others of its list that aren't gone are ranked at least as high than it has places. On the side
-- of hospitals the pair is sure of a post, on that of residents its resident has nothing else.
abbrev pub is_free : Side → Lists → Pairs → ℕ → Bool
is_free side lists gone p =
    nat_lt (count_by (λ q. not (q == p) && not (gone q) && nat_le (rank_on side lists q) (rank_on side lists p)) (pairs_on side lists (list_of side lists p)))
    (places side lists (list_of side lists p))

-- A pair is passed on a side: at least as many marked pairs of its list are ranked strictly higher as it has places. With the pairs
-- that are free on the other side this is rule A for residents, and rule B for hospitals.
abbrev pub is_passed : Side → Lists → Pairs → ℕ → Bool
is_passed side lists marked w =
    nat_le (places side lists (list_of side lists w))
    (count_by (λ q. nat_lt (rank_on side lists q) (rank_on side lists w) && marked q) (pairs_on side lists (list_of side lists w)))
