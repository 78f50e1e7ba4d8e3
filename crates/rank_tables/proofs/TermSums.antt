-- The terms of the model's rows, summed over the rows of residents and of hospitals in place of the pairs.
use Rattle.std.proofs.Common.{◌≡◌, ℕ, zero, suc, ◌+◌, ◌≤◌, ◌<◌, Bool, true, false, ◌&&◌, ◌==◌, nat_le, nat_lt, if◌then◌else◌, List, [], ◌∷◌, length, map, filter, sum_by, count_by, refl, sym, ap, ap₂, ◌∙◌, inl, inr, arith, eq-eqb}
use Rattle.std.specs.List.{list_all}
use Rattle.std.proofs.lemmas.Bool.{cases_eq, and_parts, ltb-true, ne_eqb}
use Rattle.std.proofs.lemmas.List.Sums.{sum_by_push, sum_by-cons}
use Rattle.rank_tables.specs.declared.terms.Ranked.{Ranked}
use Rattle.rank_tables.specs.Numbers.{below}
use Rattle.rank_tables.specs.Counting.{as_high, counting}
use Rattle.rank_tables.proofs.Membership.{length_is_sum}
use Rattle.rank_tables.proofs.Numbers.{sum_by-filter, sum_by_same}

abbrev one_if : Bool → ℕ
one_if b = if b then 1 else 0

sum_by-map : (f : Ranked → ℕ) (g : ℕ → Ranked) (xs : List ℕ) → sum_by f (map g xs) ≡ sum_by (λ x. f (g x)) xs
sum_by-map f g [] = refl
sum_by-map f g (x ∷ xs) = omega (arith, sum_by-cons f (g x) (map g xs), sum_by-cons (λ x. f (g x)) x xs, sum_by-map f g xs)

pub sum_add : (f g : ℕ → ℕ) (xs : List ℕ) → sum_by (λ x. f x + g x) xs ≡ sum_by f xs + sum_by g xs
sum_add f g [] = refl
sum_add f g (x ∷ xs) = omega (arith, sum_by-cons (λ x. f x + g x) x xs, sum_by-cons f x xs, sum_by-cons g x xs, sum_add f g xs)

-- ---- each element is of one kind

none_before : (x v n : ℕ) → n ≤ x → sum_by (λ k. if x == k then v else 0) (below n) ≡ 0
none_before x v zero l = refl
none_before x v (suc n) l =
    let other : (if x == n then v else 0) ≡ 0 = ap (λ b. if b then v else 0) (ne_eqb x n (omega arith)) in
    omega (arith, sum_by_push (λ k. if x == k then v else 0) (below n) n, none_before x v n (omega arith), other)

one_kind : (x v n : ℕ) → x < n → sum_by (λ k. if x == k then v else 0) (below n) ≡ v
one_kind x v zero l = absurd (omega arith)
one_kind x v (suc n) l = elim (cases_eq x n) [
  | inl same ↦
      let here : (if x == n then v else 0) ≡ v = ap (λ b. if b then v else 0) (eq-eqb x n same) in
      omega (arith, sum_by_push (λ k. if x == k then v else 0) (below n) n, none_before x v n (omega arith), here)
  | inr other ↦
      let here : (if x == n then v else 0) ≡ 0 = ap (λ b. if b then v else 0) (ne_eqb x n other) in
      omega (arith, sum_by_push (λ k. if x == k then v else 0) (below n) n, one_kind x v n (omega (arith, other)), here)
]

pub none_of : (xs : List ℕ) → sum_by (λ x. 0) xs ≡ 0
none_of [] = refl
none_of (x ∷ xs) = omega (arith, sum_by-cons (λ x. 0) x xs, none_of xs)

by_kind : (key f : ℕ → ℕ) (n : ℕ) (ps : List ℕ) → list_all (λ p. nat_lt (key p) n) ps ≡ true →
    sum_by (λ k. sum_by (λ p. if key p == k then f p else 0) ps) (below n) ≡ sum_by f ps
by_kind key f n [] h = none_of (below n)
by_kind key f n (p ∷ ps) h =
    let both = and_parts (nat_lt (key p) n) (list_all (λ p. nat_lt (key p) n) ps) h in
    let part : ℕ → ℕ → ℕ = λ k p. if key p == k then f p else 0 in
    sum_by_same (λ k. sum_by (part k) (p ∷ ps)) (λ k. part k p + sum_by (part k) ps) (below n) (λ k. sum_by-cons (part k) p ps)
    ∙ sum_add (λ k. part k p) (λ k. sum_by (part k) ps) (below n)
    ∙ ap₂ ◌+◌ (one_kind (key p) (f p) n (ltb-true _ _ both.0)) (by_kind key f n ps both.1) ∙ sym (sum_by-cons f p ps)

-- ---- rows of the pairs of one kind, in any order

unfoldable pub AreOfKinds : (ℕ → ℕ) → List ℕ → (ℕ → List ℕ) → Type 0
AreOfKinds key ns rows = (k : ℕ) (f : ℕ → ℕ) → sum_by f (rows k) ≡ sum_by f (filter (λ p. key p == k) ns)

kind_sum : (key : ℕ → ℕ) (ns : List ℕ) (rows : ℕ → List ℕ) → AreOfKinds key ns rows → (k : ℕ) (f : ℕ → ℕ) →
    sum_by f (rows k) ≡ sum_by (λ p. if key p == k then f p else 0) ns
unfolding AreOfKinds
kind_sum key ns rows of k f = of k f ∙ sum_by-filter f (λ p. key p == k) ns

both_tests : (a b : Bool) → (if a then one_if b else 0) ≡ one_if (a && b)
both_tests true b = refl
both_tests false b = refl

-- those of the row that a pair's own row may have: of its kind, and ranked at least as high
abbrev pub as_high_as : (ℕ → ℕ) → (ℕ → Ranked) → List ℕ → ℕ → ℕ
as_high_as key rank ns p = count_by (λ q. key q == key p && nat_le (rank q).rank (rank p).rank) ns

pub rows-as_high : (key : ℕ → ℕ) (rank : ℕ → Ranked) (ns : List ℕ) (n : ℕ) (rows : ℕ → List ℕ) → AreOfKinds key ns rows →
    list_all (λ p. nat_lt (key p) n) ns ≡ true →
    sum_by (λ k. as_high (map rank (rows k))) (below n) ≡ sum_by (λ p. if (rank p).counts then as_high_as key rank ns p else 0) ns
rows-as_high key rank ns n rows of within =
    let whole : ℕ → ℕ = λ p. if (rank p).counts then as_high_as key rank ns p else 0 in
    sum_by_same _ (λ k. sum_by (λ p. if key p == k then whole p else 0) ns) (below n)
    (λ k.
    let others : ℕ → ℕ = λ p. count_by (λ q. key q == k && nat_le (rank q).rank (rank p).rank) ns in
    let each : (p : ℕ) → count_by (λ (y : Ranked). nat_le y.rank (rank p).rank) (map rank (rows k)) ≡ others p =
    λ p. sum_by-map (λ (y : Ranked). if nat_le y.rank (rank p).rank then 1 else 0) rank (rows k)
    ∙ kind_sum key ns rows of k (λ q. one_if (nat_le (rank q).rank (rank p).rank))
    ∙ sum_by_same _ _ ns (λ q. both_tests (key q == k) (nat_le (rank q).rank (rank p).rank)) in
    sum_by-map (λ (x : Ranked). if x.counts then count_by (λ (y : Ranked). nat_le y.rank x.rank) (map rank (rows k)) else 0) rank (rows k)
    ∙ sum_by_same _ (λ p. if (rank p).counts then others p else 0) (rows k) (λ p. ap (λ m. if (rank p).counts then m else 0) (each p))
    ∙ kind_sum key ns rows of k (λ p. if (rank p).counts then others p else 0)
    ∙ sum_by_same _ _ ns (λ p. same_kind (key p) k (rank p).counts (λ j. count_by (λ q. key q == j && nat_le (rank q).rank (rank p).rank) ns)))
    ∙ by_kind key whole n ns within
  where
    same_kind : (x k : ℕ) (c : Bool) (f : ℕ → ℕ) → (if x == k then (if c then f k else 0) else 0) ≡ (if x == k then (if c then f x else 0) else 0)
    same_kind x k c f = elim (cases_eq x k) [
      | inl same ↦ ap (λ (j : ℕ). if x == k then (if c then f j else 0) else 0) (sym same)
      | inr other ↦ ap (λ b. if b then (if c then f k else 0) else 0) (ne_eqb x k other) ∙ sym (ap (λ b. if b then (if c then f x else 0) else 0) (ne_eqb x k other))
    ]

pub rows-counting : (key : ℕ → ℕ) (rank : ℕ → Ranked) (ns : List ℕ) (n : ℕ) (rows : ℕ → List ℕ) → AreOfKinds key ns rows →
    list_all (λ p. nat_lt (key p) n) ns ≡ true →
    sum_by (λ k. counting (map rank (rows k))) (below n) ≡ sum_by (λ p. one_if (rank p).counts) ns
rows-counting key rank ns n rows of within =
    sum_by_same _ (λ k. sum_by (λ p. if key p == k then one_if (rank p).counts else 0) ns) (below n)
    (λ k. sum_by-map (λ (x : Ranked). if x.counts then 1 else 0) rank (rows k) ∙ kind_sum key ns rows of k (λ p. one_if (rank p).counts))
    ∙ by_kind key (λ p. one_if (rank p).counts) n ns within

pub rows-length : (key : ℕ → ℕ) (ns : List ℕ) (n : ℕ) → list_all (λ p. nat_lt (key p) n) ns ≡ true →
    sum_by (λ k. length (filter (λ p. key p == k) ns)) (below n) ≡ length ns
rows-length key ns n within =
    sum_by_same _ (λ k. sum_by (λ p. if key p == k then 1 else 0) ns) (below n) (λ k. length_is_sum (filter (λ p. key p == k) ns) ∙ sum_by-filter (λ p. 1) (λ p. key p == k) ns)
    ∙ by_kind key (λ p. 1) n ns within ∙ sym (length_is_sum ns)
