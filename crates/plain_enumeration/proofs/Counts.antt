-- How many numbers of a list pass a test, and the first of them in an order.
use Rattle.std.proofs.Common.{◌≡◌, ℕ, ◌+◌, ◌<◌, ◌≤◌, Bool, true, false, not, ◌&&◌, ◌||◌, List, [], ◌∷◌, ◌==◌, if◌then◌else◌, filter, count_by, refl, sym, ap, ◌∙◌, inl, inr, subst, arith}
use Rattle.std.specs.List.{list_any}
use Rattle.std.proofs.lemmas.Bool.{true≢false, eqb-true, eqb-false, eq-eqb, ne_eqb, and_from, and_parts, or_cases, or_right, or_left, ltb-false, not-true, not_from_false, cases_Bool, true_from_ne_false}
use Rattle.std.proofs.lemmas.List.Sums.{sum_by-cons}
use Rattle.rank_tables.specs.Numbers.{is_in, is_distinct}
use Rattle.rank_tables.proofs.Numbers.{element, list_any-count, sum_by-filter, sum_by_same}

-- ---- counts

abbrev pub one_if : Bool → ℕ
one_if b = if b then 1 else 0

le_step : (a b : Bool) (m n : ℕ) → (a ≡ true → b ≡ true) → m ≤ n → one_if a + m ≤ one_if b + n
le_step true true m n h k = omega arith
le_step true false m n h k = absurd (true≢false (sym (h refl)))
le_step false true m n h k = omega arith
le_step false false m n h k = omega arith

-- a test that another follows from passes no more numbers
pub count_le : (t u : ℕ → Bool) (xs : List ℕ) → ((x : ℕ) → is_in x xs ≡ true → t x ≡ true → u x ≡ true) → count_by t xs ≤ count_by u xs
count_le t u [] h = omega arith
count_le t u (x ∷ xs) h =
    let step : one_if (t x) + count_by t xs ≤ one_if (u x) + count_by u xs =
    le_step (t x) (u x) _ _ (h x (or_left (x == x) _ (eq-eqb x x refl))) (count_le t u xs (λ y i. h y (or_right (x == y) _ i))) in
    omega (arith, sum_by-cons (λ x. one_if (t x)) x xs, sum_by-cons (λ x. one_if (u x)) x xs)

lt_step : (a b : Bool) (m n : ℕ) → a ≡ false → b ≡ true → m ≤ n → one_if a + m < one_if b + n
lt_step true b m n e f h = absurd (true≢false e)
lt_step false true m n e f h = omega arith
lt_step false false m n e f h = absurd (true≢false (sym f))

-- and fewer, where a number passes the other test alone
pub count_lt : (t u : ℕ → Bool) (w : ℕ) (xs : List ℕ) → ((x : ℕ) → is_in x xs ≡ true → t x ≡ true → u x ≡ true) →
    is_in w xs ≡ true → t w ≡ false → u w ≡ true → count_by t xs < count_by u xs
count_lt t u w [] h i e f = absurd (true≢false (sym i))
count_lt t u w (x ∷ xs) h i e f =
    let later : (y : ℕ) → is_in y xs ≡ true → t y ≡ true → u y ≡ true = λ y j. h y (or_right (x == y) _ j) in
    let step : one_if (t x) + count_by t xs < one_if (u x) + count_by u xs =
    elim (or_cases (x == w) (is_in w xs) i) [
      | inl s ↦ lt_step (t x) (u x) _ _ (ap t (eqb-true x w s) ∙ e) (ap u (eqb-true x w s) ∙ f) (count_le t u xs later)
      | inr s ↦
          let rest : count_by t xs < count_by u xs = count_lt t u w xs later s e f in
          let here : one_if (t x) + 0 ≤ one_if (u x) + 0 = le_step (t x) (u x) 0 0 (h x (or_left (x == x) _ (eq-eqb x x refl))) (omega arith) in
          omega arith
    ] in
    omega (arith, sum_by-cons (λ x. one_if (t x)) x xs, sum_by-cons (λ x. one_if (u x)) x xs)

-- those that pass, but for one number
abbrev pub but : ℕ → (ℕ → Bool) → ℕ → Bool
but w t x = t x && not (x == w)

at_one : (a b : Bool) (m n : ℕ) → m ≤ n → one_if a + m ≤ 1 + (one_if b + n)
at_one true b m n h = omega arith
at_one false b m n h = omega arith

before_one : (a b : Bool) (m n : ℕ) → b ≡ false → m ≤ 1 + n → one_if a + m ≤ 1 + (one_if (a && not b) + n)
before_one a true m n e h = absurd (true≢false e)
before_one true false m n e h = omega arith
before_one false false m n e h = omega arith

differs : (w x y : ℕ) (xs : List ℕ) → x ≡ w → is_in x xs ≡ false → is_in y xs ≡ true → not (y == w) ≡ true
differs w x y xs e f i =
    not_from_false _ (ne_eqb y w (λ s. true≢false (sym i ∙ ap (λ z. is_in z xs) (s ∙ sym e) ∙ f)))

-- in a list where no number stands twice, all that pass but one are at most one fewer
pub count_but : (w : ℕ) (t : ℕ → Bool) (xs : List ℕ) → is_distinct xs ≡ true → count_by t xs ≤ 1 + count_by (but w t) xs
count_but w t [] d = omega arith
count_but w t (x ∷ xs) d =
    let apart : (not (is_in x xs) ≡ true) × (is_distinct xs ≡ true) = and_parts (not (is_in x xs)) _ d in
    let step : one_if (t x) + count_by t xs ≤ 1 + (one_if (but w t x) + count_by (but w t) xs) =
    elim (cases_Bool (x == w)) [
      | inl s ↦ at_one (t x) (but w t x) _ _ (count_le t (but w t) xs (λ y i k. and_from (t y) _ k (differs w x y xs (eqb-true x w s) (not-true _ apart.0) i)))
      | inr s ↦ before_one (t x) (x == w) _ _ s (count_but w t xs apart.1)
    ] in
    omega (arith, sum_by-cons (λ x. one_if (t x)) x xs, sum_by-cons (λ x. one_if (but w t x)) x xs)

pub any_from : (t : ℕ → Bool) (x : ℕ) (xs : List ℕ) → is_in x xs ≡ true → t x ≡ true → list_any t xs ≡ true
any_from t x [] i h = i
any_from t x (y ∷ ys) i h =
    elim (or_cases (y == x) (is_in x ys) i) [
      | inl e ↦ or_left (t y) _ (ap t (eqb-true y x e) ∙ h)
      | inr e ↦ or_right (t y) _ (any_from t x ys e h)
    ]

pub count_none : (t : ℕ → Bool) (xs : List ℕ) → ((x : ℕ) → is_in x xs ≡ true → t x ≡ true → ⊥) → count_by t xs ≤ 0
count_none t xs h =
    elim (cases_Bool (list_any t xs)) [
      | inl e ↦ let r : (x : ℕ) × (is_in x xs ≡ true) × (t x ≡ true) = element t xs e in absurd (h r.0 r.1 r.2)
      | inr e ↦ ltb-false 0 _ (sym (list_any-count t xs) ∙ e)
    ]

-- where all that pass are one number, no more than one passes
pub count_one : (t : ℕ → Bool) (xs : List ℕ) → is_distinct xs ≡ true → ((x y : ℕ) → is_in x xs ≡ true → is_in y xs ≡ true → t x ≡ true → t y ≡ true → x ≡ y) → count_by t xs ≤ 1
count_one t xs d h =
    elim (cases_Bool (list_any t xs)) [
      | inl e ↦
          let r : (x : ℕ) × (is_in x xs ≡ true) × (t x ≡ true) = element t xs e in
          let few : count_by t xs ≤ 1 + count_by (but r.0 t) xs = count_but r.0 t xs d in
          let none : count_by (but r.0 t) xs ≤ 0 =
          count_none (but r.0 t) xs (λ y i k.
          let parts : (t y ≡ true) × (not (y == r.0) ≡ true) = and_parts (t y) _ k in
          eqb-false y r.0 (not-true _ parts.1) (h y r.0 i r.1 parts.0 r.2)) in
          omega arith
      | inr e ↦ let none : count_by t xs ≤ 0 = ltb-false 0 _ (sym (list_any-count t xs) ∙ e) in omega arith
    ]

both_tests : (a b : Bool) → (if a then (if b then 1 else 0) else 0) ≡ one_if (a && b)
both_tests true true = refl
both_tests true false = refl
both_tests false b = refl

-- to count those that pass u among those that pass t
pub count_among : (t u : ℕ → Bool) (xs : List ℕ) → count_by u (filter t xs) ≡ count_by (λ x. t x && u x) xs
count_among t u xs = sum_by-filter (λ x. one_if (u x)) t xs ∙ sum_by_same _ _ xs (λ x. both_tests (t x) (u x))

-- ---- the first number in an order

pub record IsOrder (before : ℕ → ℕ → Bool) : Type 0 where
  pub total : (x y : ℕ) → before x y ≡ false → before y x ≡ true
  pub joins : (x y z : ℕ) → before x y ≡ true → before y z ≡ true → before x z ≡ true

-- the number stands in the list, passes the test, and comes before all others that do
pub record IsFirst (before : ℕ → ℕ → Bool) (t : ℕ → Bool) (xs : List ℕ) (x : ℕ) : Type 0 where
  pub stands : is_in x xs ≡ true
  pub passes : t x ≡ true
  pub leads : (y : ℕ) → is_in y xs ≡ true → t y ≡ true → before x y ≡ true

itself : (before : ℕ → ℕ → Bool) → IsOrder before → (x : ℕ) → before x x ≡ true
itself before o x = true_from_ne_false _ (λ e. true≢false (sym (o.total x x e) ∙ e))

here : (a b : Bool) → b ≡ false → (a || b) ≡ true → a ≡ true
here true b e h = refl
here false b e h = sym e ∙ h

true_then : (a b : Bool) → a ≡ true → (a && b) ≡ false → b ≡ false
true_then true b e h = h
true_then false b e h = absurd (true≢false (sym e))

-- the first of the later ones, or the one before them
first_of_two : (before : ℕ → ℕ → Bool) → IsOrder before → (t : ℕ → Bool) (x : ℕ) (xs : List ℕ) → ((y : ℕ) × IsFirst before t xs y) → (y : ℕ) × IsFirst before t (x ∷ xs) y
first_of_two before o t x xs r =
    elim (cases_Bool (t x && before x r.0)) [
      | inl e ↦
          let parts : (t x ≡ true) × (before x r.0 ≡ true) = and_parts (t x) _ e in (
            x,
            record {
              stands = or_left (x == x) _ (eq-eqb x x refl);
              passes = parts.0;
              leads = λ y i k. elim (or_cases (x == y) (is_in y xs) i) [
                | inl s ↦ subst (λ (z : ℕ). before x z ≡ true) (eqb-true x y s) (itself before o x)
                | inr s ↦ o.joins x r.0 y parts.1 (r.1.leads y s k)
              ];
            },
          )
      | inr e ↦ (
        r.0,
        record {
          stands = or_right (x == r.0) _ r.1.stands;
          passes = r.1.passes;
          leads = λ y i k. elim (or_cases (x == y) (is_in y xs) i) [
            | inl s ↦
                let n : (x ≡ y) = eqb-true x y s in
                let b : (before x r.0 ≡ false) = true_then (t x) _ (ap t n ∙ k) e in
                subst (λ (z : ℕ). before r.0 z ≡ true) n (o.total x r.0 b)
            | inr s ↦ r.1.leads y s k
          ];
        },
      )
    ]

pub first : (before : ℕ → ℕ → Bool) → IsOrder before → (t : ℕ → Bool) (xs : List ℕ) → list_any t xs ≡ true → (x : ℕ) × IsFirst before t xs x
first before o t [] h = absurd (true≢false (sym h))
first before o t (x ∷ xs) h =
    elim (cases_Bool (list_any t xs)) [
      | inl e ↦ first_of_two before o t x xs (first before o t xs e)
      | inr e ↦ (
        x,
        record {
          stands = or_left (x == x) _ (eq-eqb x x refl);
          passes = here (t x) _ e h;
          leads = λ y i k. elim (or_cases (x == y) (is_in y xs) i) [
            | inl s ↦ subst (λ (z : ℕ). before x z ≡ true) (eqb-true x y s) (itself before o x)
            | inr s ↦ absurd (true≢false (sym (any_from t y xs s k) ∙ e))
          ];
        },
      )
    ]
