-- Counts over lists of pairs that are sorted into kinds.
use Rattle.std.proofs.Common.{◌≡◌, ℕ, zero, suc, ◌+◌, ◌<◌, Bool, true, false, not, List, [], ◌∷◌, ◌==◌, if◌then◌else◌, length, filter, sum_by, count_by, pos, refl, sym, ap₂, ◌∙◌, arith, length-append}
use Rattle.std.specs.Prelude.{flat_map}
use Rattle.std.proofs.lemmas.Bool.{or_left, or_right, eq-eqb, le-ltb, lt-ltb}
use Rattle.std.proofs.lemmas.Int.{ints}
use Rattle.std.proofs.lemmas.List.Sums.{sum_by-append, sum_by-cons}
use Rattle.rank_tables.specs.Numbers.{is_in, is_distinct, below}
use Rattle.rank_tables.proofs.Numbers.{sum_by_same, sum_by-filter, sum_by-filter_step, sum_z_same, sum_z_pos, sum_z_one, distinct_push, is_in-below}

distinct-below : (n : ℕ) → is_distinct (below n) ≡ true
distinct-below zero = refl
distinct-below (suc n) = distinct_push (below n) n (distinct-below n) (is_in-below n n ∙ le-ltb n n (omega arith))

sum_by_zero : (xs : List ℕ) → sum_by (λ x. 0) xs ≡ 0
sum_by_zero [] = refl
sum_by_zero (x ∷ xs) = let e = sum_by_zero xs in omega (arith, sum_by-cons (λ x. 0) x xs)

sum_by_add : (f g : ℕ → ℕ) (xs : List ℕ) → sum_by (λ x. f x + g x) xs ≡ sum_by f xs + sum_by g xs
sum_by_add f g [] = refl
sum_by_add f g (x ∷ xs) = let e = sum_by_add f g xs in omega (arith, sum_by-cons (λ x. f x + g x) x xs, sum_by-cons f x xs, sum_by-cons g x xs)

if_pos : (b : Bool) (n : ℕ) → pos (if b then n else 0) ≡ (if b then pos n else pos 0)
if_pos true n = refl
if_pos false n = refl

pos_same : (m n : ℕ) → pos m ≡ pos n → m ≡ n
pos_same m n e = omega (arith, ints)

sum_by_one : (n x : ℕ) (xs : List ℕ) → is_distinct xs ≡ true → is_in x xs ≡ true → sum_by (λ y. if x == y then n else 0) xs ≡ n
sum_by_one n x xs d i = pos_same _ _ (sym (sum_z_pos _ xs) ∙ sum_z_same _ _ xs (λ y. if_pos (x == y) n) ∙ sum_z_one (λ y. pos n) x xs d i)

sum_by_kinds_in : (kind f : ℕ → ℕ) (ks xs : List ℕ) → is_distinct ks ≡ true → ((x : ℕ) → is_in x xs ≡ true → is_in (kind x) ks ≡ true) →
    sum_by (λ k. sum_by f (filter (λ x. kind x == k) xs)) ks ≡ sum_by f xs
sum_by_kinds_in kind f ks [] d h = sum_by_zero ks
sum_by_kinds_in kind f ks (x ∷ xs) d h =
    sum_by_same _ _ ks (λ k. sum_by-filter_step f (kind x == k) x (filter (λ y. kind y == k) xs))
    ∙ sum_by_add (λ k. if kind x == k then f x else 0) (λ k. sum_by f (filter (λ y. kind y == k) xs)) ks
    ∙ ap₂ ◌+◌ (sum_by_one (f x) (kind x) ks d (h x (or_left (x == x) _ (eq-eqb x x refl)))) (sum_by_kinds_in kind f ks xs d (λ y i. h y (or_right (x == y) _ i)))
    ∙ sym (sum_by-cons f x xs)

-- a sum over a list is the sum over the kinds of its elements
pub sum_by_kinds : (kind f : ℕ → ℕ) (size : ℕ) (xs : List ℕ) → ((x : ℕ) → is_in x xs ≡ true → kind x < size) →
    sum_by (λ k. sum_by f (filter (λ x. kind x == k) xs)) (below size) ≡ sum_by f xs
sum_by_kinds kind f size xs h = sum_by_kinds_in kind f (below size) xs (distinct-below size) (λ x i. is_in-below size (kind x) ∙ lt-ltb _ _ (h x i))

length_is_sum : (xs : List ℕ) → length xs ≡ sum_by (λ x. 1) xs
length_is_sum [] = refl
length_is_sum (x ∷ xs) = let e = length_is_sum xs in omega (arith, sum_by-cons (λ x. 1) x xs)

-- the counts of the kinds add up to the length
pub length_by_kinds : (kind : ℕ → ℕ) (size : ℕ) (xs : List ℕ) → ((x : ℕ) → is_in x xs ≡ true → kind x < size) →
    sum_by (λ k. count_by (λ x. kind x == k) xs) (below size) ≡ length xs
length_by_kinds kind size xs h =
    sum_by_same _ _ (below size) (λ k. sym (sum_by-filter (λ x. 1) (λ x. kind x == k) xs)) ∙ sum_by_kinds kind (λ x. 1) size xs h ∙ sym (length_is_sum xs)

-- ---- lists one after another

pub count_lists : (t : ℕ → Bool) (list : ℕ → List ℕ) (ks : List ℕ) → count_by t (flat_map list ks) ≡ sum_by (λ k. count_by t (list k)) ks
count_lists t list [] = refl
count_lists t list (k ∷ ks) =
    omega (arith, sum_by-append (λ x. if t x then 1 else 0) (list k) (flat_map list ks), count_lists t list ks, sum_by-cons (λ j. count_by t (list j)) k ks)

pub length_lists : (list : ℕ → List ℕ) (degree more : ℕ → ℕ) → ((k : ℕ) → degree k + more k ≡ length (list k)) → (ks : List ℕ) → sum_by degree ks + sum_by more ks ≡ length (flat_map list ks)
length_lists list degree more h [] = refl
length_lists list degree more h (k ∷ ks) =
    omega (arith, sum_by-cons degree k ks, sum_by-cons more k ks, h k, length_lists list degree more h ks, length-append (list k) (flat_map list ks))

pub count_all : (xs : List ℕ) → count_by (λ x. true) xs ≡ length xs
count_all xs = sym (length_is_sum xs)

-- a count and the count of the others
pub count_others : (t : ℕ → Bool) (xs : List ℕ) → count_by t xs + count_by (λ x. not (t x)) xs ≡ length xs
count_others t [] = refl
count_others t (x ∷ xs) = omega (arith, one_of (t x), count_others t xs, sum_by-cons (λ y. if t y then 1 else 0) x xs, sum_by-cons (λ y. if not (t y) then 1 else 0) x xs)
  where
    one_of : (b : Bool) → (if b then 1 else 0) + (if not b then 1 else 0) ≡ 1
    one_of true = refl
    one_of false = refl
