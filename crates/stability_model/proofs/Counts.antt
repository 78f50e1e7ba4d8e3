-- Counts along implications, counts over a list of pairs as counts over all pairs, and counts by kinds.
use Rattle.std.proofs.Common.{◌≡◌, ℕ, ◌+◌, ◌≤◌, ◌<◌, Bool, true, false, not, ◌&&◌, List, [], ◌∷◌, ◌==◌, if◌then◌else◌, filter, sum_by, count_by, refl, sym, ap, ◌∙◌, inl, inr, subst, arith}
use Rattle.std.specs.List.{list_all, list_any}
use Rattle.std.proofs.lemmas.Bool.{true≢false, or_cases, or_left, or_right, eqb-true, eq-eqb, ltb-true}
use Rattle.std.proofs.lemmas.List.Sums.{sum_by-cons}
use Rattle.rank_tables.specs.Numbers.{is_in, is_distinct}
use Rattle.rank_tables.proofs.Numbers.{all_from, sum_by_same, sum_by-filter, sum_by_of_elements, list_any-count}

-- ---- along implications

pub sum_by_le : (f g : ℕ → ℕ) (xs : List ℕ) → ((x : ℕ) → is_in x xs ≡ true → f x ≤ g x) → sum_by f xs ≤ sum_by g xs
sum_by_le f g [] h = omega arith
sum_by_le f g (x ∷ xs) h =
    let a : f x ≤ g x = h x (or_left (x == x) _ (eq-eqb x x refl)) in
    let b : sum_by f xs ≤ sum_by g xs = sum_by_le f g xs (λ y i. h y (or_right (x == y) _ i)) in
    omega (arith, sum_by-cons f x xs, sum_by-cons g x xs)

one_le : (a b : Bool) → (a ≡ true → b ≡ true) → (if a then 1 else 0) ≤ (if b then 1 else 0)
one_le true true h = omega arith
one_le true false h = absurd (true≢false (sym (h refl)))
one_le false true h = omega arith
one_le false false h = omega arith

pub count_by_le : (p q : ℕ → Bool) (xs : List ℕ) → ((x : ℕ) → is_in x xs ≡ true → p x ≡ true → q x ≡ true) → count_by p xs ≤ count_by q xs
count_by_le p q xs h = sum_by_le _ _ xs (λ x i. one_le (p x) (q x) (h x i))

pub any_at : (t : ℕ → Bool) (x : ℕ) (xs : List ℕ) → is_in x xs ≡ true → t x ≡ true → list_any t xs ≡ true
any_at t x [] i h = absurd (true≢false (sym i))
any_at t x (y ∷ ys) i h =
    elim (or_cases (y == x) (is_in x ys) i) [
      | inl e ↦ or_left (t y) _ (subst (λ (z : ℕ). t z ≡ true) (sym (eqb-true y x e)) h)
      | inr e ↦ or_right (t y) _ (any_at t x ys e h)
    ]

pub some_counted : (t : ℕ → Bool) (x : ℕ) (xs : List ℕ) → is_in x xs ≡ true → t x ≡ true → 0 < count_by t xs
some_counted t x xs i h = ltb-true 0 _ (sym (list_any-count t xs) ∙ any_at t x xs i h)

counts_one : (b : Bool) (n : ℕ) → b ≡ true → (if b then n else 0) ≡ n
counts_one true n e = refl
counts_one false n e = absurd (true≢false (sym e))

-- at most one element passes: two that do are the same
second : (t : ℕ → Bool) (x y : ℕ) (xs : List ℕ) → count_by t (x ∷ xs) ≤ 1 → t x ≡ true → is_in y xs ≡ true → t y ≡ true → ⊥
second t x y xs c a i b =
    let k : 0 < count_by t xs = some_counted t y xs i b in
    omega (arith, counts_one (t x) 1 a, sum_by-cons (λ x. if t x then 1 else 0) x xs)

pub only_one : (t : ℕ → Bool) (x y : ℕ) (xs : List ℕ) → count_by t xs ≤ 1 → is_in x xs ≡ true → t x ≡ true → is_in y xs ≡ true → t y ≡ true → x ≡ y
only_one t x y [] c i a j b = absurd (true≢false (sym i))
only_one t x y (z ∷ zs) c i a j b =
    elim (or_cases (z == x) (is_in x zs) i) [
      | inl e ↦ elim (or_cases (z == y) (is_in y zs) j) [
        | inl f ↦ sym (eqb-true z x e) ∙ eqb-true z y f
        | inr f ↦ absurd (second t z y zs c (subst (λ (k : ℕ). t k ≡ true) (sym (eqb-true z x e)) a) f b)
      ]
      | inr e ↦ elim (or_cases (z == y) (is_in y zs) j) [
        | inl f ↦ absurd (second t z x zs c (subst (λ (k : ℕ). t k ≡ true) (sym (eqb-true z y f)) b) e a)
        | inr f ↦ let l : count_by t zs ≤ 1 = omega (arith, sum_by-cons (λ x. if t x then 1 else 0) z zs) in only_one t x y zs l e a f b
      ]
    ]

-- ---- over all numbers

both_count : (a b : Bool) (n : ℕ) → (if a then (if b then n else 0) else 0) ≡ (if a && b then n else 0)
both_count true b n = refl
both_count false b n = refl

pub count_in_filter : (t keep : ℕ → Bool) (xs : List ℕ) → count_by t (filter keep xs) ≡ count_by (λ x. keep x && t x) xs
count_in_filter t keep xs = sum_by-filter (λ x. if t x then 1 else 0) keep xs ∙ sum_by_same _ _ xs (λ x. both_count (keep x) (t x) 1)

pub count_in_list : (t : ℕ → Bool) (ns m : List ℕ) → is_distinct ns ≡ true → is_distinct m ≡ true → list_all (λ x. is_in x ns) m ≡ true →
    count_by t m ≡ count_by (λ x. is_in x m && t x) ns
count_in_list t ns m d e h = sym (sum_by_of_elements (λ x. if t x then 1 else 0) ns m d e h) ∙ count_in_filter t (λ x. is_in x m) ns

-- lists of the same numbers, without repeats, have one count
pub count_alike : (t : ℕ → Bool) (ms ns : List ℕ) → is_distinct ms ≡ true → is_distinct ns ≡ true → ((x : ℕ) → is_in x ms ≡ is_in x ns) → count_by t ms ≡ count_by t ns
count_alike t ms ns d e alike =
    count_in_list t ns ms e d (all_from (λ x. is_in x ns) ms (λ x i. sym (alike x) ∙ i))
    ∙ sum_by_same _ _ ns (λ x. ap (λ (b : Bool). if b && t x then 1 else 0) (alike x))
    ∙ sym (count_in_list t ns ns e e (all_from (λ x. is_in x ns) ns (λ x i. i)))

split_term : (h a b : Bool) → b ≡ not a → (if h then 1 else 0) ≡ (if h && a then 1 else 0) + (if h && b then 1 else 0)
split_term true true true e = absurd (true≢false e)
split_term true true false e = refl
split_term true false true e = refl
split_term true false false e = absurd (true≢false (sym e))
split_term false a b e = refl

pub count_split : (h a b : ℕ → Bool) (xs : List ℕ) → ((x : ℕ) → b x ≡ not (a x)) →
    count_by h xs ≡ count_by (λ x. h x && a x) xs + count_by (λ x. h x && b x) xs
count_split h a b [] e = refl
count_split h a b (x ∷ xs) e =
    let k = count_split h a b xs e in
    let s = split_term (h x) (a x) (b x) (e x) in
    omega (arith, sum_by-cons (λ x. if h x then 1 else 0) x xs, sum_by-cons (λ x. if h x && a x then 1 else 0) x xs, sum_by-cons (λ x. if h x && b x then 1 else 0) x xs)
