-- What the pairs of a weakly stable list are, and how many.
use Rattle.std.proofs.Common.{◌≡◌, ◌≤◌, ℕ, ◌&&◌, Bool, true, nat_le, List, length, All, sym, ◌∙◌, arith}
use Rattle.std.proofs.lemmas.Bool.{and_parts, leb-true}
use Rattle.std.proofs.lemmas.List.Elements.{All-weaker}
use Rattle.std.proofs.lemmas.List.Folds.{list_all-map}
use Rattle.std.proofs.lemmas.List.Sums.{AllPass-from_list_all, count_by-le-length, length-filter}
use Rattle.hrt_base.specs.declared.numbered.PairNo.{PairNo}
use Rattle.rank_tables.specs.Numbers.{is_distinct, numbers_to, is_in}
use Rattle.rank_tables.specs.Instance.{Lists, pair_count}
use Rattle.rank_tables.specs.Stability.{is_weakly_stable}
use Rattle.rank_tables.specs.Tables.{IsPairNo, numbers_of}
use Rattle.rank_tables.proofs.Below.{length-numbers_to}
use Rattle.rank_tables.proofs.Membership.{Matching, are_pairs, in_order, in_order_length, stable_parts}

-- a list of distinct pairs has at most as many as there are
pub pairs_length : (lists : Lists) (m : List ℕ) → is_distinct m ≡ true → are_pairs lists m ≡ true → length m ≤ pair_count lists
pairs_length lists m distinct in_range =
    let same : length (in_order lists m) ≡ length m = in_order_length lists m distinct in_range in
    omega (arith, same, length-filter (λ p. is_in p m) (numbers_to (pair_count lists)), count_by-le-length (λ p. is_in p m) (numbers_to (pair_count lists)), length-numbers_to (pair_count lists))

-- and so has a weakly stable one
pub stable_length : (lists : Lists) (m : List ℕ) → is_weakly_stable lists m ≡ true → length m ≤ pair_count lists
stable_length lists m h = let parts : Matching lists m = stable_parts lists m h in pairs_length lists m parts.distinct parts.in_range

in_range : (lists : Lists) (p : ℕ) → (nat_le 1 p && nat_le p (pair_count lists)) ≡ true → IsPairNo lists p
in_range lists p h = let parts = and_parts (nat_le 1 p) (nat_le p (pair_count lists)) h in (leb-true 1 p parts.0, leb-true p (pair_count lists) parts.1)

-- and each of them is the number of a pair
pub stable_numbers : (lists : Lists) (pairs : List PairNo) → is_weakly_stable lists (numbers_of pairs) ≡ true → All (λ p. IsPairNo lists p.0) pairs
stable_numbers lists pairs h =
    let parts : Matching lists (numbers_of pairs) = stable_parts lists (numbers_of pairs) h in
    let test : ℕ → Bool = λ p. nat_le 1 p && nat_le p (pair_count lists) in
    All-weaker _ (λ (p : PairNo). IsPairNo lists p.0) (λ p e. in_range lists p.0 e) pairs
    (AllPass-from_list_all (λ (p : PairNo). test p.0) pairs (sym (list_all-map test (λ (p : PairNo). p.0) pairs) ∙ parts.in_range))
