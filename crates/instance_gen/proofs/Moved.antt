-- Lists of numbers in another order, and their fronts.
use Rattle.std.proofs.Common.{◌≡◌, ◌≤◌, ◌==◌, if◌then◌else◌, ℕ, Bool, true, false, not, List, [], ◌∷◌, take, drop, count_by, refl, sym, ap, subst, ◌∙◌, arith, eq-eqb}
use Rattle.std.specs.List.{list_all}
use Rattle.std.specs.List.Sorted.{IsPermutation}
use Rattle.std.proofs.lemmas.Bool.{and_from, and_parts, eqb-true, ltb-false, not-true, le-ltb}
use Rattle.std.proofs.lemmas.List.{take-append-drop}
use Rattle.std.proofs.lemmas.List.Folds.{list_all-append}
use Rattle.std.proofs.lemmas.List.Sorted.{list_any-IsPermutation, sum_by-IsPermutation}
use Rattle.std.proofs.lemmas.List.Sums.{sum_by-cons}
use Rattle.rank_tables.specs.Numbers.{is_distinct, is_in}
use Rattle.rank_tables.proofs.Numbers.{all_at, all_from, list_any-count}
use Rattle.rank_tables.proofs.Ranks.{distinct-parts}

-- ---- how often a number stands in a list

none_if_absent : (z : ℕ) (xs : List ℕ) → is_in z xs ≡ false → count_by (λ y. y == z) xs ≤ 0
none_if_absent z xs h = ltb-false 0 (count_by (λ y. y == z) xs) (sym (list_any-count (λ y. y == z) xs) ∙ h)

absent_if_none : (z : ℕ) (xs : List ℕ) → count_by (λ y. y == z) xs ≤ 0 → is_in z xs ≡ false
absent_if_none z xs h = list_any-count (λ y. y == z) xs ∙ le-ltb 0 (count_by (λ y. y == z) xs) h

abbrev one_if : Bool → ℕ
one_if b = if b then 1 else 0

once : (z : ℕ) (xs : List ℕ) → is_distinct xs ≡ true → count_by (λ y. y == z) xs ≤ 1
once z [] d = omega arith
once z (x ∷ xs) d =
    let parts = and_parts (not (is_in x xs)) (is_distinct xs) d in
    by (x == z) refl parts.0 (once z xs parts.1)
  where
    by : (b : Bool) → (x == z) ≡ b → not (is_in x xs) ≡ true → count_by (λ y. y == z) xs ≤ 1 → count_by (λ y. y == z) (x ∷ xs) ≤ 1
    by true e absent rest =
        let none : count_by (λ y. y == z) xs ≤ 0 = none_if_absent z xs (subst (λ (n : ℕ). is_in n xs ≡ false) (eqb-true x z e) (not-true _ absent)) in
        omega (arith, sum_by-cons (λ y. if y == z then 1 else 0) x xs, ap one_if e, none)
    by false e absent rest = omega (arith, sum_by-cons (λ y. if y == z then 1 else 0) x xs, ap one_if e, rest)

from_once : (xs : List ℕ) → ((z : ℕ) → count_by (λ y. y == z) xs ≤ 1) → is_distinct xs ≡ true
from_once [] h = refl
from_once (x ∷ xs) h =
    let here : one_if (x == x) ≡ 1 = ap one_if (eq-eqb x x refl) in
    let none : is_in x xs ≡ false = absent_if_none x xs (omega (arith, h x, sum_by-cons (λ y. if y == x then 1 else 0) x xs, here)) in
    and_from (not (is_in x xs)) (is_distinct xs) (ap not none) (from_once xs (λ z. omega (arith, h z, sum_by-cons (λ y. if y == z then 1 else 0) x xs)))

-- ---- another order

pub distinct_moved : (xs ys : List ℕ) → IsPermutation xs ys → is_distinct xs ≡ true → is_distinct ys ≡ true
distinct_moved xs ys p d = from_once ys (λ z. omega (arith, sum_by-IsPermutation (λ y. if y == z then 1 else 0) xs ys p, once z xs d))

pub all_moved : (test : ℕ → Bool) (xs ys : List ℕ) → IsPermutation xs ys → list_all test xs ≡ true → list_all test ys ≡ true
all_moved test xs ys p h = all_from test ys (λ x i. all_at test xs x h (list_any-IsPermutation (λ y. y == x) xs ys p ∙ i))

-- ---- the front of a list

pub distinct_front : (k : ℕ) (xs : List ℕ) → is_distinct xs ≡ true → is_distinct (take k xs) ≡ true
distinct_front k xs d = (distinct-parts (take k xs) (drop k xs) (ap is_distinct (take-append-drop k xs) ∙ d)).0

pub all_front : (test : ℕ → Bool) (k : ℕ) (xs : List ℕ) → list_all test xs ≡ true → list_all test (take k xs) ≡ true
all_front test k xs h =
    (and_parts (list_all test (take k xs)) (list_all test (drop k xs)) (sym (list_all-append test (take k xs) (drop k xs)) ∙ ap (list_all test) (take-append-drop k xs) ∙ h)).0
