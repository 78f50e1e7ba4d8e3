-- Matchings, blocking pairs and weak stability, after Manlove. A list of pair numbers stands for the pairs.
use Rattle.std.specs.Prelude.{ℕ, ◌≤◌, Bool, not, ◌&&◌, ◌||◌, ◌==◌, nat_lt, nat_le, IsTrue, List, length, count_by}
use Rattle.std.specs.List.{list_any, list_all}
use Rattle.rank_tables.specs.Instance.{Lists, pair_count, pair_at, rank_by_resident, rank_by_hospital, capacity_of}
use Rattle.rank_tables.specs.Numbers.{numbers_to, is_in, is_distinct}

-- how many pairs in the list are of a resident
abbrev pub uses_of_resident : Lists → List ℕ → ℕ → ℕ
uses_of_resident lists m r = count_by (λ q. (pair_at lists q).resident == r) m

-- how many pairs in the list are of a hospital
abbrev pub uses_of_hospital : Lists → List ℕ → ℕ → ℕ
uses_of_hospital lists m h = count_by (λ q. (pair_at lists q).hospital == h) m

-- distinct pairs, each resident in at most one of them, each hospital in at most as many as it has posts
abbrev pub is_matching : Lists → List ℕ → Bool
is_matching lists m =
    is_distinct m
    && list_all (λ p. nat_le 1 p && nat_le p (pair_count lists)) m
    && list_all (λ p. nat_le (uses_of_resident lists m (pair_at lists p).resident) 1) m
    && list_all (λ p. nat_le (uses_of_hospital lists m (pair_at lists p).hospital) (capacity_of lists (pair_at lists p).hospital)) m

-- the resident of p is in no pair of m, or ranks the hospital of p strictly higher than each hospital that it has in m
abbrev pub resident_wants : Lists → List ℕ → ℕ → Bool
resident_wants lists m p =
    list_all (λ q. not ((pair_at lists q).resident == (pair_at lists p).resident) || nat_lt (rank_by_resident lists p) (rank_by_resident lists q)) m

-- the hospital of p has a free post, or ranks the resident of p strictly higher than one of its residents
abbrev pub hospital_wants : Lists → List ℕ → ℕ → Bool
hospital_wants lists m p =
    nat_lt (uses_of_hospital lists m (pair_at lists p).hospital) (capacity_of lists (pair_at lists p).hospital)
    || list_any (λ q. (pair_at lists q).hospital == (pair_at lists p).hospital && nat_lt (rank_by_hospital lists p) (rank_by_hospital lists q)) m

-- p is outside m, and its resident and its hospital both want it
abbrev pub blocks : Lists → List ℕ → ℕ → Bool
blocks lists m p = not (is_in p m) && resident_wants lists m p && hospital_wants lists m p

-- a matching that no acceptable pair blocks
abbrev pub is_weakly_stable : Lists → List ℕ → Bool
is_weakly_stable lists m = is_matching lists m && list_all (λ p. not (blocks lists m p)) (numbers_to (pair_count lists))

-- a weakly stable matching that no other exceeds in length
pub record Best (lists : Lists) (m : List ℕ) : Type 0 where
  pub stable : IsTrue (is_weakly_stable lists m)
  pub largest : (n : List ℕ) → IsTrue (is_weakly_stable lists n) → length n ≤ length m
