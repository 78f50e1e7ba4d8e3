-- Pairs that are written as those that block, block.
use Rattle.std.proofs.Common.{◌≡◌, ℕ, zero, suc, ◌<◌, ◌==◌, Bool, true, false, cond, not, ◌||◌, nat_le, List, [], ◌∷◌, length, filter, take, min, refl, sym, ap, ◌∙◌, inl, inr, arith}
use Rattle.std.specs.List.{All, list_all}
use Rattle.std.proofs.lemmas.Bool.{and_from, and_parts, eq-eqb, leb-true, or_cases}
use Rattle.std.proofs.lemmas.List.Elements.{All-cons, All-nil}
use Rattle.hrt_base.specs.declared.numbered.PairNo.{PairNo}
use Rattle.rank_tables.specs.Instance.{Lists, pair_count}
use Rattle.rank_tables.specs.Numbers.{is_distinct, is_in, numbers_to}
use Rattle.rank_tables.specs.Stability.{blocks}
use Rattle.rank_tables.specs.Tables.{IsPairNo, numbers_of}
use Rattle.rank_tables.proofs.Numbers.{distinct-numbers_to, is_in-filter, is_in-numbers_to}
use Rattle.lazy_stability.specs.Candidates.{AreBlocking, blocking}

-- ---- lists of numbers

in_front : (n k : ℕ) (xs : List ℕ) → is_in n (take k xs) ≡ true → is_in n xs ≡ true
in_front n zero xs i = absurd (cc)
in_front n (suc k) [] i = absurd (cc)
in_front n (suc k) (x ∷ xs) i = elim (or_cases (x == n) (is_in n (take k xs)) i) [ inl s ↦ first (x == n) (is_in n xs) s | inr s ↦ second (x == n) (is_in n xs) (in_front n k xs s) ]
  where
    first : (b c : Bool) → b ≡ true → (b || c) ≡ true
    first true c h = refl
    first false c h = absurd (cc)

    second : (b c : Bool) → c ≡ true → (b || c) ≡ true
    second true c h = refl
    second false c h = h

fewer : (a b : Bool) → (a ≡ true → b ≡ true) → not b ≡ true → not a ≡ true
fewer true true h i = i
fewer true false h i = absurd (cc (h refl))
fewer false b h i = refl

distinct_front : (k : ℕ) (xs : List ℕ) → is_distinct xs ≡ true → is_distinct (take k xs) ≡ true
distinct_front zero xs h = refl
distinct_front (suc k) [] h = refl
distinct_front (suc k) (x ∷ xs) h =
    let parts = and_parts (not (is_in x xs)) (is_distinct xs) h in
    and_from (not (is_in x (take k xs))) (is_distinct (take k xs)) (fewer (is_in x (take k xs)) (is_in x xs) (in_front x k xs) parts.0) (distinct_front k xs parts.1)

filter_step : (t : Bool) (x : ℕ) (xs ys : List ℕ) → (is_in x ys ≡ true → is_in x xs ≡ true) → not (is_in x xs) ≡ true → is_distinct ys ≡ true → is_distinct (cond t (x ∷ ys) ys) ≡ true
filter_step true x xs ys h out d = and_from (not (is_in x ys)) (is_distinct ys) (fewer (is_in x ys) (is_in x xs) h out) d
filter_step false x xs ys h out d = d

distinct_filter : (test : ℕ → Bool) (xs : List ℕ) → is_distinct xs ≡ true → is_distinct (filter test xs) ≡ true
distinct_filter test [] h = refl
distinct_filter test (x ∷ xs) h =
    let parts = and_parts (not (is_in x xs)) (is_distinct xs) h in
    filter_step (test x) x xs (filter test xs) (λ i. (and_parts (is_in x xs) (test x) (sym (is_in-filter test x xs) ∙ i)).0) parts.0 (distinct_filter test xs parts.1)

-- ---- pairs

each_blocks : (lists : Lists) (m : List ℕ) (pairs : List PairNo) → ((n : ℕ) → is_in n (numbers_of pairs) ≡ true → IsPairNo lists n × (blocks lists m n ≡ true)) → All (λ (p : PairNo). IsPairNo lists p.0 × (blocks lists m p.0 ≡ true)) pairs
each_blocks lists m [] h = All-nil (λ (p : PairNo). IsPairNo lists p.0 × (blocks lists m p.0 ≡ true))
each_blocks lists m (p ∷ pairs) h =
    All-cons (λ (q : PairNo). IsPairNo lists q.0 × (blocks lists m q.0 ≡ true)) p pairs (h p.0 (first (p.0 == p.0) (is_in p.0 (numbers_of pairs)) (eq-eqb p.0 p.0 refl)))
    (each_blocks lists m pairs (λ n i. h n (second (p.0 == n) (is_in n (numbers_of pairs)) i)))
  where
    first : (b c : Bool) → b ≡ true → (b || c) ≡ true
    first true c h = refl
    first false c h = absurd (cc)

    second : (b c : Bool) → c ≡ true → (b || c) ≡ true
    second true c h = refl
    second false c h = h

blocking_in : (lists : Lists) (m : List ℕ) (n : ℕ) → is_in n (blocking lists m) ≡ true → IsPairNo lists n × (blocks lists m n ≡ true)
blocking_in lists m n i =
    let parts = and_parts (is_in n (numbers_to (pair_count lists))) (blocks lists m n) (sym (is_in-filter (blocks lists m) n (numbers_to (pair_count lists))) ∙ i) in
    let range = and_parts (nat_le 1 n) (nat_le n (pair_count lists)) (sym (is_in-numbers_to (pair_count lists) n) ∙ parts.0) in
    ((leb-true 1 n range.0, leb-true n (pair_count lists) range.1), parts.1)

pub written_block : (lists : Lists) (m : List ℕ) (pairs : List PairNo) (k : ℕ) → numbers_of pairs ≡ take k (blocking lists m) → AreBlocking lists m pairs
written_block lists m pairs k e = record {
  distinct = ap is_distinct e ∙ distinct_front k (blocking lists m) (distinct_filter (blocks lists m) (numbers_to (pair_count lists)) (distinct-numbers_to (pair_count lists)));
  each = each_blocks lists m pairs (λ n i. blocking_in lists m n (in_front n k (blocking lists m) (sym (ap (is_in n) e) ∙ i)));
}

-- ---- none

none_step : (b : Bool) (x : ℕ) (ys : List ℕ) → length (cond b (x ∷ ys) ys) ≡ 0 → (b ≡ false) × (length ys ≡ 0)
none_step true x ys h = absurd (omega (arith, h))
none_step false x ys h = (refl, h)

none_kept : (test : ℕ → Bool) (xs : List ℕ) → length (filter test xs) ≡ 0 → list_all (λ x. not (test x)) xs ≡ true
none_kept test [] h = refl
none_kept test (x ∷ xs) h =
    let both = none_step (test x) x (filter test xs) h in
    and_from (not (test x)) (list_all (λ y. not (test y)) xs) (ap not both.0) (none_kept test xs both.1)

kept_none : (b : Bool) (x : ℕ) (ys : List ℕ) → not b ≡ true → length ys ≡ 0 → length (cond b (x ∷ ys) ys) ≡ 0
kept_none true x ys h e = absurd (cc)
kept_none false x ys h e = e

all_fail : (test : ℕ → Bool) (xs : List ℕ) → list_all (λ x. not (test x)) xs ≡ true → length (filter test xs) ≡ 0
all_fail test [] h = refl
all_fail test (x ∷ xs) h =
    let parts = and_parts (not (test x)) (list_all (λ y. not (test y)) xs) h in
    kept_none (test x) x (filter test xs) parts.0 (all_fail test xs parts.1)

pub none_written : (lists : Lists) (m : List ℕ) (room count : ℕ) → 0 < room → count ≡ min room (length (blocking lists m)) → count ≡ 0 → list_all (λ p. not (blocks lists m p)) (numbers_to (pair_count lists)) ≡ true
none_written lists m room count some e z = none_kept (blocks lists m) (numbers_to (pair_count lists)) (omega (arith, some, e, z))

pub none_blocks : (lists : Lists) (m : List ℕ) (room count : ℕ) → count ≡ min room (length (blocking lists m)) → list_all (λ p. not (blocks lists m p)) (numbers_to (pair_count lists)) ≡ true → count ≡ 0
none_blocks lists m room count e all = let none = all_fail (blocks lists m) (numbers_to (pair_count lists)) all in omega (arith, e, none)
