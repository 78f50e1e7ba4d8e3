-- How many terms the rows of the 0/1 model of an instance have.
use Rattle.std.specs.Prelude.{ℕ, ◌+◌, Bool, ◌&&◌, ◌||◌, ◌==◌, nat_le, nat_lt, if◌then◌else◌, length, count_by, sum_by}
use Rattle.rank_tables.specs.Numbers.{below, numbers_to}
use Rattle.rank_tables.specs.Instance.{Lists, capacity_of, pair_at, pair_count, rising_pairs_of_hospital, pairs_of_resident, rank_by_hospital, rank_by_resident}

-- whether q is a pair of the resident of p, which ranks it at least as high as p
abbrev pub is_as_good_for_resident : Lists → ℕ → ℕ → Bool
is_as_good_for_resident lists p q = (pair_at lists q).resident == (pair_at lists p).resident && nat_le (rank_by_resident lists q) (rank_by_resident lists p)

-- whether q is a pair of the hospital of p, which ranks it at least as high as p
abbrev pub is_as_good_for_hospital : Lists → ℕ → ℕ → Bool
is_as_good_for_hospital lists p q = (pair_at lists q).hospital == (pair_at lists p).hospital && nat_le (rank_by_hospital lists q) (rank_by_hospital lists p)

-- whether the hospital of pair p has a post
abbrev pub has_post : Lists → ℕ → Bool
has_post lists p = nat_lt 0 (capacity_of lists (pair_at lists p).hospital)

-- whether the row of pair p has a term for pair q: for p itself, for another that its resident ranks at least as high where
-- its hospital has a post, and for another that its hospital ranks at least as high
abbrev pub has_term : Lists → ℕ → ℕ → Bool
has_term lists p q = q == p || (if is_as_good_for_resident lists p q then has_post lists p else is_as_good_for_hospital lists p q)

-- the terms of all rows: of residents, of hospitals and of pairs
abbrev pub model_terms : Lists → ℕ
model_terms lists =
    sum_by (λ r. length (pairs_of_resident lists r)) (below (length lists.residents))
    + sum_by (λ h. length (rising_pairs_of_hospital lists h)) (below (length lists.hospitals))
    + sum_by (λ p. count_by (has_term lists p) (numbers_to (pair_count lists))) (numbers_to (pair_count lists))
