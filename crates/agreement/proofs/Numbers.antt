-- Lists of numbers: what is in two lists, and lists that have nothing in common.
use Rattle.std.proofs.Common.{◌≡◌, ℕ, ◌==◌, Bool, true, false, not, ◌||◌, List, [], ◌∷◌, ◌++◌, refl, sym, ◌∙◌, inl, inr}
use Rattle.std.proofs.lemmas.Bool.{and_from, and_parts, eq-eqb, or_cases}
use Rattle.rank_tables.specs.Numbers.{is_distinct, is_in}
use Rattle.proof_rules.proofs.Held.{is_in-append}

pub or_first : (b c : Bool) → b ≡ true → (b || c) ≡ true
or_first true c h = refl
or_first false c h = absurd (cc)

pub or_second : (b c : Bool) → c ≡ true → (b || c) ≡ true
or_second true c h = refl
or_second false c h = h

-- lists that have nothing in common
pub distinct_append : (xs ys : List ℕ) → is_distinct xs ≡ true → is_distinct ys ≡ true → ((n : ℕ) → is_in n xs ≡ true → is_in n ys ≡ true → ⊥) → is_distinct (xs ++ ys) ≡ true
distinct_append [] ys a b apart = b
distinct_append (x ∷ xs) ys a b apart =
    let parts = and_parts (not (is_in x xs)) (is_distinct xs) a in
    and_from (not (is_in x (xs ++ ys))) (is_distinct (xs ++ ys)) (absent (is_in x (xs ++ ys)) (λ i. by x xs ys parts.0 (apart x (or_first (x == x) (is_in x xs) (eq-eqb x x refl))) i))
    (distinct_append xs ys parts.1 b (λ n i. apart n (or_second (x == n) (is_in n xs) i)))
  where
    absent : (t : Bool) → (t ≡ true → ⊥) → not t ≡ true
    absent true h = absurd (h refl)
    absent false h = refl

    present : (t : Bool) → not t ≡ true → t ≡ true → ⊥
    present true h i = cc
    present false h i = cc

    by : (x : ℕ) (xs ys : List ℕ) → not (is_in x xs) ≡ true → (is_in x ys ≡ true → ⊥) → is_in x (xs ++ ys) ≡ true → ⊥
    by x xs ys out other i = elim (or_cases (is_in x xs) (is_in x ys) (sym (is_in-append x xs ys) ∙ i)) [ inl s ↦ present (is_in x xs) out s | inr s ↦ other s ]
