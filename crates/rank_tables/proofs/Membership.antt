-- Weak stability depends on which pairs stand in a list, and not on their order: a list and the rising list of its
-- members are stable together and have one length.
use Rattle.std.proofs.Common.{◌≡◌, ℕ, Bool, true, false, not, ◌&&◌, ◌||◌, List, [], ◌∷◌, ◌==◌, nat_le, nat_lt, if◌then◌else◌, filter, sum_by, count_by, length, refl, sym, ap, ap₂, ◌∙◌, arith}
use Rattle.std.specs.List.{list_all, list_any}
use Rattle.std.proofs.lemmas.Bool.{and_parts}
use Rattle.std.proofs.lemmas.List.Sums.{sum_by-cons}
use Rattle.rank_tables.specs.Numbers.{numbers_to, is_in, is_distinct}
use Rattle.rank_tables.specs.Instance.{Lists, pair_count, pair_at, capacity_of}
use Rattle.rank_tables.specs.Stability.{is_matching, blocks, is_weakly_stable, uses_of_resident, uses_of_hospital}
use Rattle.rank_tables.proofs.Numbers.{all_at, all_from, all_same, is_in-numbers_to, distinct-numbers_to, distinct-filter, sum_by_of_elements, list_any-count, list_all-none}

abbrev pub HaveSameElements : List ℕ → List ℕ → Type 0
HaveSameElements m n = (t : ℕ → Bool) → count_by t m ≡ count_by t n

pub any_alike : (m n : List ℕ) → HaveSameElements m n → (t : ℕ → Bool) → list_any t m ≡ list_any t n
any_alike m n h t = list_any-count t m ∙ ap (nat_lt 0) (h t) ∙ sym (list_any-count t n)

twice : (b : Bool) → b ≡ not (not b)
twice true = refl
twice false = refl

pub all_alike : (m n : List ℕ) → HaveSameElements m n → (t : ℕ → Bool) → list_all t m ≡ list_all t n
all_alike m n h t =
    list_all-none t (λ q. not (t q)) m (λ q. twice (t q)) ∙ ap not (any_alike m n h (λ q. not (t q))) ∙ sym (list_all-none t (λ q. not (t q)) n (λ q. twice (t q)))

pub blocks_alike : (lists : Lists) (m n : List ℕ) → HaveSameElements m n → (p : ℕ) → blocks lists m p ≡ blocks lists n p
blocks_alike lists m n h p =
    ap₂ ◌&&◌ (ap₂ ◌&&◌ (ap not (any_alike m n h (λ q. q == p))) (all_alike m n h _))
    (ap₂ ◌||◌ (ap (λ u. nat_lt u (capacity_of lists (pair_at lists p).hospital)) (h (λ q. (pair_at lists q).hospital == (pair_at lists p).hospital))) (any_alike m n h _))

pub stable_alike : (lists : Lists) (m n : List ℕ) → HaveSameElements m n → is_distinct m ≡ true → is_distinct n ≡ true → is_weakly_stable lists m ≡ is_weakly_stable lists n
stable_alike lists m n h d e =
    ap₂ ◌&&◌
    (ap₂ ◌&&◌
    (ap₂ ◌&&◌ (ap₂ ◌&&◌ (d ∙ sym e) (all_alike m n h _))
    (all_same _ _ m (λ p. ap (λ u. nat_le u 1) (h (λ q. (pair_at lists q).resident == (pair_at lists p).resident))) ∙ all_alike m n h _))
    (all_same _ _ m (λ p. ap (λ u. nat_le u (capacity_of lists (pair_at lists p).hospital)) (h (λ q. (pair_at lists q).hospital == (pair_at lists p).hospital))) ∙ all_alike m n h _))
    (all_same _ _ (numbers_to (pair_count lists)) (λ p. ap not (blocks_alike lists m n h p)))

pub length_is_sum : (m : List ℕ) → length m ≡ sum_by (λ q. 1) m
length_is_sum [] = refl
length_is_sum (q ∷ m) = let e = length_is_sum m in omega (arith, sum_by-cons (λ q. 1) q m)

-- ---- the rising list of the members

abbrev pub are_pairs : Lists → List ℕ → Bool
are_pairs lists m = list_all (λ p. nat_le 1 p && nat_le p (pair_count lists)) m

-- the pairs that a test chooses, rising
abbrev pub chosen : Lists → (ℕ → Bool) → List ℕ
chosen lists test = filter test (numbers_to (pair_count lists))

-- the pairs of a list, rising
abbrev pub in_order : Lists → List ℕ → List ℕ
in_order lists m = chosen lists (λ p. is_in p m)

in_numbers : (lists : Lists) (m : List ℕ) → are_pairs lists m ≡ true → list_all (λ q. is_in q (numbers_to (pair_count lists))) m ≡ true
in_numbers lists m r = all_from _ m (λ q i. is_in-numbers_to (pair_count lists) q ∙ all_at _ m q r i)

pub in_order_alike : (lists : Lists) (m : List ℕ) → is_distinct m ≡ true → are_pairs lists m ≡ true → HaveSameElements (in_order lists m) m
in_order_alike lists m d r t =
    sum_by_of_elements (λ q. if t q then 1 else 0) (numbers_to (pair_count lists)) m (distinct-numbers_to (pair_count lists)) d (in_numbers lists m r)

pub chosen_distinct : (lists : Lists) (test : ℕ → Bool) → is_distinct (chosen lists test) ≡ true
chosen_distinct lists test = distinct-filter test (numbers_to (pair_count lists)) (distinct-numbers_to (pair_count lists))

pub in_order_stable : (lists : Lists) (m : List ℕ) → is_distinct m ≡ true → are_pairs lists m ≡ true → is_weakly_stable lists (in_order lists m) ≡ is_weakly_stable lists m
in_order_stable lists m d r = stable_alike lists (in_order lists m) m (in_order_alike lists m d r) (chosen_distinct lists _) d

pub in_order_length : (lists : Lists) (m : List ℕ) → is_distinct m ≡ true → are_pairs lists m ≡ true → length (in_order lists m) ≡ length m
in_order_length lists m d r =
    length_is_sum (in_order lists m)
    ∙ sum_by_of_elements (λ q. 1) (numbers_to (pair_count lists)) m (distinct-numbers_to (pair_count lists)) d (in_numbers lists m r)
    ∙ sym (length_is_sum m)

-- ---- what a matching is made of

pub record Matching (lists : Lists) (m : List ℕ) : Type 0 where
  pub distinct : is_distinct m ≡ true
  pub in_range : are_pairs lists m ≡ true
  pub residents : list_all (λ p. nat_le (uses_of_resident lists m (pair_at lists p).resident) 1) m ≡ true
  pub hospitals : list_all (λ p. nat_le (uses_of_hospital lists m (pair_at lists p).hospital) (capacity_of lists (pair_at lists p).hospital)) m ≡ true

pub matching_parts : (lists : Lists) (m : List ℕ) → is_matching lists m ≡ true → Matching lists m
matching_parts lists m h =
    let four = and_parts _ (list_all (λ p. nat_le (uses_of_hospital lists m (pair_at lists p).hospital) (capacity_of lists (pair_at lists p).hospital)) m) h in
    let three = and_parts _ (list_all (λ p. nat_le (uses_of_resident lists m (pair_at lists p).resident) 1) m) four.0 in
    let two = and_parts (is_distinct m) (are_pairs lists m) three.0 in
    record { distinct = two.0; in_range = two.1; residents = three.1; hospitals = four.1 }

pub stable_parts : (lists : Lists) (m : List ℕ) → is_weakly_stable lists m ≡ true → Matching lists m
stable_parts lists m h = matching_parts lists m (and_parts (is_matching lists m) _ h).0
