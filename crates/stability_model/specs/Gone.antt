-- Pairs that two rules show to be in no weakly stable matching.
use Rattle.std.specs.Prelude.{ℕ, min, Bool, not, ◌&&◌, ◌||◌, ◌==◌, nat_lt, nat_le, IsTrue, length, count_by, sum_by}
use Rattle.std.specs.List.{list_all, list_any}
use Rattle.rank_tables.specs.Numbers.{below}
use Rattle.rank_tables.specs.Instance.{Lists, capacity_of, pair_at, rising_pairs_of_hospital, pairs_of_resident, rank_by_hospital, rank_by_resident}
use Rattle.rank_tables.specs.Tables.{IsPairNo}

-- A set of pairs, as a test of their numbers.
abbrev pub Pairs : Type 0
Pairs = ℕ → Bool

-- pair p is sure of a post: among the others that aren't gone its hospital ranks fewer than it has posts at least as high
abbrev pub is_sure : Lists → Pairs → ℕ → Bool
is_sure lists gone p =
    nat_lt (count_by (λ q. not (q == p) && not (gone q) && nat_le (rank_by_hospital lists q) (rank_by_hospital lists p)) (rising_pairs_of_hospital lists (pair_at lists p).hospital))
    (capacity_of lists (pair_at lists p).hospital)

-- Rule A: what a resident ranks strictly lower than a pair that is sure of a post is gone.
abbrev pub rule_a : Lists → Pairs → ℕ → Bool
rule_a lists gone w =
    list_any (λ p. is_sure lists gone p && nat_lt (rank_by_resident lists p) (rank_by_resident lists w)) (pairs_of_resident lists (pair_at lists w).resident)

-- the resident of q has nothing else left that it ranks at least as high: it takes the post if it is offered
abbrev pub has_only : Lists → Pairs → ℕ → Bool
has_only lists gone q =
    list_all (λ o. o == q || gone o || nat_lt (rank_by_resident lists q) (rank_by_resident lists o)) (pairs_of_resident lists (pair_at lists q).resident)

-- Rule B: a pair is gone where its hospital strictly prefers at least as many such residents as it has posts.
abbrev pub rule_b : Lists → Pairs → ℕ → Bool
rule_b lists gone p =
    nat_le (capacity_of lists (pair_at lists p).hospital)
    (count_by (λ q. nat_lt (rank_by_hospital lists q) (rank_by_hospital lists p) && has_only lists gone q) (rising_pairs_of_hospital lists (pair_at lists p).hospital))

-- each pair that a rule shows is in the set
abbrev pub IsClosed : Lists → Pairs → Type 0
IsClosed lists gone = (p : ℕ) → IsPairNo lists p → IsTrue (rule_a lists gone p || rule_b lists gone p) → IsTrue (gone p)

-- pair p is in every closed set, so in the least one
abbrev pub Gone : Lists → ℕ → Type 0
Gone lists p = IsPairNo lists p × ((gone : Pairs) → IsClosed lists gone → IsTrue (gone p))

-- of the numbers of pairs the set holds exactly those of the pairs that are gone
pub record AreGone (lists : Lists) (gone : Pairs) : Type 0 where
  pub each : (p : ℕ) → IsPairNo lists p → IsTrue (gone p) → Gone lists p
  pub all : (p : ℕ) → Gone lists p → IsTrue (gone p)

-- how many residents have a pair that is left
abbrev pub residents_left : Lists → Pairs → ℕ
residents_left lists gone = count_by (λ r. list_any (λ p. not (gone p)) (pairs_of_resident lists r)) (below (length lists.residents))

-- how many posts the pairs that are left can fill
abbrev pub posts_left : Lists → Pairs → ℕ
posts_left lists gone = sum_by (λ h. min (capacity_of lists h) (count_by (λ p. not (gone p)) (rising_pairs_of_hospital lists h))) (below (length lists.hospitals))

-- the smaller of the two; no matching of pairs that are left has more pairs
abbrev pub ceiling : Lists → Pairs → ℕ
ceiling lists gone = min (residents_left lists gone) (posts_left lists gone)
