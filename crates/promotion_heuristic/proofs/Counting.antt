-- How many numbers pass a test that one more number passes than another, and sums of which one is smaller.
use Rattle.std.proofs.Common.{◌≡◌, ℕ, suc, ◌+◌, ◌*◌, ◌<◌, ◌≤◌, Bool, true, false, not, ◌&&◌, ◌||◌, ◌==◌, if◌then◌else◌, List, [], ◌∷◌, length, filter, count_by, sum_by, refl, sym, ap, ◌∙◌, inl, inr, subst, arith}
use Rattle.std.proofs.lemmas.Bool.{true≢false, eqb-true, eq-eqb, and_parts, or_cases, or_left, or_right, not-true, or_parts, false_from_ne_true, cases_Bool}
use Rattle.std.proofs.lemmas.List.Sums.{sum_by-cons}
use Rattle.rank_tables.specs.Numbers.{is_in, is_distinct}
use Rattle.rank_tables.proofs.Numbers.{sum_by-filter, sum_by_same}

abbrev pub one_if : Bool → ℕ
one_if b = if b then 1 else 0

both_tests : (a b : Bool) → (if a then (if b then 1 else 0) else 0) ≡ one_if (a && b)
both_tests true true = refl
both_tests true false = refl
both_tests false b = refl

-- to count those that pass u among those that pass t
pub count_by-filter_and : (t u : ℕ → Bool) (xs : List ℕ) → count_by u (filter t xs) ≡ count_by (λ x. t x && u x) xs
count_by-filter_and t u xs = sum_by-filter (λ x. one_if (u x)) t xs ∙ sum_by_same _ _ xs (λ x. both_tests (t x) (u x))

-- ---- sums

pub sum_le : (f g : ℕ → ℕ) (xs : List ℕ) → ((x : ℕ) → is_in x xs ≡ true → f x ≤ g x) → sum_by f xs ≤ sum_by g xs
sum_le f g [] h = omega arith
sum_le f g (x ∷ xs) h =
    let here : f x ≤ g x = h x (or_left _ _ (eq-eqb x x refl)) in
    let rest : sum_by f xs ≤ sum_by g xs = sum_le f g xs (λ y i. h y (or_right _ _ i)) in
    omega (arith, sum_by-cons f x xs, sum_by-cons g x xs)

pub sum_lt : (f g : ℕ → ℕ) (p : ℕ) (xs : List ℕ) → ((x : ℕ) → is_in x xs ≡ true → f x ≤ g x) → is_in p xs ≡ true → f p < g p → sum_by f xs < sum_by g xs
sum_lt f g p [] h i l = absurd (true≢false (sym i))
sum_lt f g p (x ∷ xs) h i l =
    let here : f x ≤ g x = h x (or_left _ _ (eq-eqb x x refl)) in
    let rest : sum_by f xs ≤ sum_by g xs = sum_le f g xs (λ y j. h y (or_right _ _ j)) in
    elim (or_cases _ _ i) [
      | inl s ↦
          let less : f x < g x = subst (λ (z : ℕ). f z < g z) (sym (eqb-true x p s)) l in
          omega (arith, sum_by-cons f x xs, sum_by-cons g x xs)
      | inr s ↦
          let less : sum_by f xs < sum_by g xs = sum_lt f g p xs (λ y j. h y (or_right _ _ j)) s l in
          omega (arith, sum_by-cons f x xs, sum_by-cons g x xs)
    ]

pub sum_within : (f : ℕ → ℕ) (c : ℕ) (xs : List ℕ) → ((x : ℕ) → f x ≤ c) → sum_by f xs ≤ c * length xs
sum_within f c [] h = omega arith
sum_within f c (x ∷ xs) h =
    let rest : sum_by f xs ≤ c * length xs = sum_within f c xs h in
    let here : f x ≤ c = h x in
    let e : c * suc (length xs) ≡ c + c * length xs = omega arith in
    omega (arith, sum_by-cons f x xs)

-- ---- one more

one_more : (t : ℕ → Bool) (p x : ℕ) (b : Bool) → (x == p) ≡ b → t p ≡ false → one_if (t x || x == p) ≡ one_if (t x) + one_if (x == p)
one_more t p x true e h = rw (ap t (eqb-true x p e) ∙ h, e) refl
one_more t p x false e h = rw e (elim (t x) as (λ a. one_if (a || false) ≡ one_if a + one_if false) [ true ↦ refl | false ↦ refl ])

count_or : (t : ℕ → Bool) (p : ℕ) (xs : List ℕ) → t p ≡ false → count_by (λ x. t x || x == p) xs ≡ count_by t xs + count_by (λ x. x == p) xs
count_or t p [] h = refl
count_or t p (x ∷ xs) h =
    let here : one_if (t x || x == p) ≡ one_if (t x) + one_if (x == p) = one_more t p x (x == p) refl h in
    let rest : count_by (λ x. t x || x == p) xs ≡ count_by t xs + count_by (λ x. x == p) xs = count_or t p xs h in
    omega (arith, sum_by-cons (λ x. one_if (t x || x == p)) x xs, sum_by-cons (λ x. one_if (t x)) x xs, sum_by-cons (λ x. one_if (x == p)) x xs)

count_absent : (p : ℕ) (xs : List ℕ) → is_in p xs ≡ false → count_by (λ x. x == p) xs ≡ 0
count_absent p [] h = refl
count_absent p (x ∷ xs) h = absent_step p x xs (x == p) refl h (count_absent p xs)
  where
    absent_step : (p x : ℕ) (xs : List ℕ) (b : Bool) → (x == p) ≡ b → (b || is_in p xs) ≡ false → (is_in p xs ≡ false → count_by (λ x. x == p) xs ≡ 0) →
        count_by (λ x. x == p) (x ∷ xs) ≡ 0
    absent_step p x xs true e h rest = absurd (true≢false h)
    absent_step p x xs false e h rest =
        let z : one_if (x == p) ≡ 0 = ap one_if e in
        let later : count_by (λ x. x == p) xs ≡ 0 = rest h in
        omega (arith, sum_by-cons (λ x. one_if (x == p)) x xs)

count_it : (p : ℕ) (xs : List ℕ) → is_distinct xs ≡ true → is_in p xs ≡ true → count_by (λ x. x == p) xs ≡ 1
count_it p [] d i = absurd (true≢false (sym i))
count_it p (x ∷ xs) d i =
    let apart = and_parts _ _ d in
    let absent : is_in x xs ≡ false = not-true _ apart.0 in
    elim (cases_Bool (x == p)) [
      | inl e ↦
          let one : one_if (x == p) ≡ 1 = ap one_if e in
          let none : count_by (λ x. x == p) xs ≡ 0 = count_absent p xs (ap (λ z. is_in z xs) (sym (eqb-true x p e)) ∙ absent) in
          omega (arith, sum_by-cons (λ x. one_if (x == p)) x xs)
      | inr e ↦
          let zero_here : one_if (x == p) ≡ 0 = ap one_if e in
          let there : is_in p xs ≡ true = elim (or_cases _ _ i) [ inl s ↦ absurd (true≢false (sym s ∙ e)) | inr s ↦ s ] in
          let one : count_by (λ x. x == p) xs ≡ 1 = count_it p xs apart.1 there in
          omega (arith, sum_by-cons (λ x. one_if (x == p)) x xs)
    ]

-- where one number more passes, the count is one more
pub count_more : (t u : ℕ → Bool) (p : ℕ) (xs : List ℕ) → is_distinct xs ≡ true → is_in p xs ≡ true → t p ≡ false → ((x : ℕ) → u x ≡ (t x || x == p)) →
    count_by u xs ≡ count_by t xs + 1
count_more t u p xs d i h e =
    sum_by_same _ _ xs (λ x. ap one_if (e x)) ∙ count_or t p xs h ∙ ap (λ n. count_by t xs + n) (count_it p xs d i)

-- where all that pass are one number, no more than one passes
none_passes : (t : ℕ → Bool) (p : ℕ) (xs : List ℕ) → ((x : ℕ) → t x ≡ true → x ≡ p) → is_in p xs ≡ false → count_by t xs ≡ 0
none_passes t p [] h i = refl
none_passes t p (x ∷ xs) h i =
    let parts = or_parts (x == p) (is_in p xs) i in
    let fails : t x ≡ false = false_from_ne_true _ (λ e. true≢false (sym (eq-eqb x p (h x e)) ∙ parts.0)) in
    omega (arith, sum_by-cons (λ x. one_if (t x)) x xs, ap one_if fails, none_passes t p xs h parts.1)

one_step : (t : ℕ → Bool) (x : ℕ) (xs : List ℕ) (b : Bool) → t x ≡ b → is_in x xs ≡ false → ((y z : ℕ) → t y ≡ true → t z ≡ true → y ≡ z) → count_by t xs ≤ 1 → count_by t (x ∷ xs) ≤ 1
one_step t x xs true e i h rest = omega (arith, sum_by-cons (λ x. one_if (t x)) x xs, ap one_if e, none_passes t x xs (λ y f. h y x f e) i)
one_step t x xs false e i h rest = omega (arith, sum_by-cons (λ x. one_if (t x)) x xs, ap one_if e)

pub count_one : (t : ℕ → Bool) (xs : List ℕ) → is_distinct xs ≡ true → ((x y : ℕ) → t x ≡ true → t y ≡ true → x ≡ y) → count_by t xs ≤ 1
count_one t [] d h = omega arith
count_one t (x ∷ xs) d h =
    let parts = and_parts (not (is_in x xs)) (is_distinct xs) d in
    one_step t x xs (t x) refl (not-true _ parts.0) h (count_one t xs parts.1 h)

-- where none passes, each fails
pub count_zero : (t : ℕ → Bool) (x : ℕ) (xs : List ℕ) → count_by t xs ≡ 0 → is_in x xs ≡ true → t x ≡ false
count_zero t x [] e i = absurd (true≢false (sym i))
count_zero t x (y ∷ xs) e i =
    let split = sum_by-cons (λ x. one_if (t x)) y xs in
    elim (or_cases _ _ i) [
      | inl same ↦ false_from_ne_true _ (λ h. let one : one_if (t y) ≡ 1 = ap one_if (ap t (eqb-true y x same) ∙ h) in omega arith)
      | inr there ↦ count_zero t x xs (omega arith) there
    ]

pub count_all : {A : Type 0} (xs : List A) → count_by (λ x. true) xs ≡ length xs
count_all [] = refl
count_all (x ∷ xs) = omega (arith, sum_by-cons (λ x. 1) x xs, count_all xs)
