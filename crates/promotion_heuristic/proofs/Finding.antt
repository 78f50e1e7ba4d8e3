-- The first number that passes a test.
use Rattle.std.proofs.Common.{◌≡◌, ℕ, zero, suc, ◌<◌, ◌≤◌, Bool, true, false, cond, List, [], ◌∷◌, Option, Some, None, refl, sym, ap, ◌∙◌, inl, inr, arith}
use Rattle.std.specs.List.{find}
use Rattle.std.specs.Option.{option_or}
use Rattle.std.proofs.lemmas.Bool.{true≢false, eqb-true, eq-eqb, and_from, or_cases, or_left, or_right, le-leb, ltb-true, cases_lt}
use Rattle.std.proofs.lemmas.List.Folds.{find-append}
use Rattle.rank_tables.specs.Numbers.{below, numbers_to, is_in}
use Rattle.rank_tables.proofs.Numbers.{is_in-below, is_in-numbers_to}

-- what is found stands in the list and passes
found_step : (t : ℕ → Bool) (x y : ℕ) (xs : List ℕ) (b : Bool) → t y ≡ b → (find t xs ≡ Some x → (is_in x xs ≡ true) × (t x ≡ true)) →
    cond b (Some y) (find t xs) ≡ Some x → (is_in x (y ∷ xs) ≡ true) × (t x ≡ true)
found_step t x y xs true e later h =
    let same : y ≡ x = cc in
    (or_left _ _ (eq-eqb y x same), ap t (sym same) ∙ e)
found_step t x y xs false e later h = let rest = later h in (or_right _ _ rest.0, rest.1)

pub found : (t : ℕ → Bool) (x : ℕ) (xs : List ℕ) → find t xs ≡ Some x → (is_in x xs ≡ true) × (t x ≡ true)
found t x [] h = absurd (cc)
found t x (y ∷ xs) h = found_step t x y xs (t y) refl (found t x xs) h

-- where none is found, each fails
none_step : (t : ℕ → Bool) (x y : ℕ) (xs : List ℕ) (b : Bool) → t y ≡ b → (find t xs ≡ None → is_in x xs ≡ true → t x ≡ false) →
    cond b (Some y) (find t xs) ≡ None → is_in x (y ∷ xs) ≡ true → t x ≡ false
none_step t x y xs true e later h i = absurd (cc)
none_step t x y xs false e later h i = elim (or_cases _ _ i) [
  | inl same ↦ ap t (sym (eqb-true y x same)) ∙ e
  | inr rest ↦ later h rest
]

pub none_found : (t : ℕ → Bool) (x : ℕ) (xs : List ℕ) → find t xs ≡ None → is_in x xs ≡ true → t x ≡ false
none_found t x [] h i = absurd (true≢false (sym i))
none_found t x (y ∷ xs) h i = none_step t x y xs (t y) refl (none_found t x xs) h i

-- where each fails, none is found
pub find-none : (t : ℕ → Bool) (xs : List ℕ) → ((x : ℕ) → is_in x xs ≡ true → t x ≡ false) → find t xs ≡ None
find-none t [] h = refl
find-none t (x ∷ xs) h = rw (h x (or_left _ _ (eq-eqb x x refl))) (find-none t xs (λ y i. h y (or_right _ _ i)))

-- where one passes, one is found
pub find-some : (t : ℕ → Bool) (x : ℕ) (xs : List ℕ) → is_in x xs ≡ true → t x ≡ true → (y : ℕ) × (find t xs ≡ Some y)
find-some t x xs i h = elim (find t xs) as (λ o. find t xs ≡ o → (y : ℕ) × (find t xs ≡ Some y)) [
  | Some y ↦ λ e. (y, e)
  | None ↦ λ e. absurd (true≢false (sym h ∙ none_found t x xs e i))
] refl

-- ---- in numbers that rise

least_step : (t : ℕ → Bool) (n p : ℕ) (o : Option ℕ) → find t (numbers_to n) ≡ o →
    ((r : ℕ) → find t (numbers_to n) ≡ Some r → (q : ℕ) → 1 ≤ q → q < r → t q ≡ false) →
    option_or o (find t (suc n ∷ [])) ≡ Some p → (q : ℕ) → 1 ≤ q → q < p → t q ≡ false
least_step t n p (Some r) e before h q a b = let same : r ≡ p = cc in before r e q a (omega arith)
least_step t n p None e before h q a b =
    let last = found t p (suc n ∷ []) h in
    let is : suc n ≡ p = elim (or_cases _ _ last.0) [ inl s ↦ eqb-true _ _ s | inr s ↦ absurd (true≢false (sym s)) ] in
    none_found t q (numbers_to n) e (is_in-numbers_to n q ∙ and_from _ _ (le-leb 1 q a) (le-leb q n (omega arith)))

-- those before the first one fail
pub before_first : (t : ℕ → Bool) (n p : ℕ) → find t (numbers_to n) ≡ Some p → (q : ℕ) → 1 ≤ q → q < p → t q ≡ false
before_first t zero p h q a b = absurd (cc)
before_first t (suc n) p h q a b =
    least_step t n p (find t (numbers_to n)) refl (λ r e. before_first t n r e) (sym (find-append t (numbers_to n) (suc n ∷ [])) ∙ h) q a b

below_step : (t : ℕ → Bool) (n r : ℕ) → r < suc n → t r ≡ true → ((x : ℕ) → x < r → t x ≡ false) → (r < n → find t (below n) ≡ Some r) →
    option_or (find t (below n)) (find t (n ∷ [])) ≡ Some r
below_step t n r l h before there = elim (cases_lt r n) [
  | inl less ↦ rw (there less) refl
  | inr more ↦
      let same : n ≡ r = omega arith in
      let none : find t (below n) ≡ None = find-none t (below n) (λ x i. before x (let b : x < n = ltb-true x n (sym (is_in-below n x) ∙ i) in omega arith)) in
      rw (none, same, h) refl
]

-- the first number below n that passes
pub find-below : (t : ℕ → Bool) (n r : ℕ) → r < n → t r ≡ true → ((x : ℕ) → x < r → t x ≡ false) → find t (below n) ≡ Some r
find-below t zero r l h before = absurd (omega arith)
find-below t (suc n) r l h before = find-append t (below n) (n ∷ []) ∙ below_step t n r l h before (λ less. find-below t n r less h before)
