-- Lists made from 0 to n - 1, and from 1 to n.
use Rattle.std.proofs.Common.{◌≡◌, ℕ, zero, suc, ◌+◌, ◌<◌, ◌≤◌, Bool, cond, ◌&&◌, List, [], ◌∷◌, ◌++◌, length, map, get_or, Some, option_map, inl, inr, refl, sym, ap, ◌∙◌, arith, length-append}
use Rattle.std.specs.List.Sorted.{IsStrictlyIncreasing}
use Rattle.std.specs.List.{range_with_len, find, filter, position, position_from, All}
use Rattle.std.proofs.lemmas.List.{length-map, map-append, get_or_append_left, get_or_push}
use Rattle.std.proofs.lemmas.Iterator.Adapters.{position_from-zero}
use Rattle.std.proofs.lemmas.List.Elements.{All-nil, All-push}
use Rattle.std.proofs.lemmas.List.FromFn.{get_or-range_with_len}
use Rattle.std.proofs.lemmas.List.Kept.{IsStrictlyIncreasing-filter}
use Rattle.std.proofs.lemmas.Bool.{cases_lt, cases_Bool}
use Rattle.rank_tables.specs.Numbers.{below, numbers_to}

pub length-below : (n : ℕ) → length (below n) ≡ n
length-below zero = refl
length-below (suc n) = omega (arith, length-append (below n) (n ∷ []), length-below n)

pub length-numbers_to : (n : ℕ) → length (numbers_to n) ≡ n
length-numbers_to zero = refl
length-numbers_to (suc n) = omega (arith, length-append (numbers_to n) (suc n ∷ []), length-numbers_to n)

-- an element of a list with one more at its end
at_end : {A : Type 0} (xs : List A) (y d : A) (i n : ℕ) (v : A) → length xs ≡ n → i < suc n →
    (i < n → get_or xs i d ≡ v) → (i ≡ n → y ≡ v) → get_or (xs ++ y ∷ []) i d ≡ v
at_end xs y d i n v e l before last = elim (cases_lt i n) [
  | inl less ↦ let within : i < length xs = omega arith in rw get_or_append_left (before less)
  | inr more ↦ get_or_push xs y d i (omega arith) ∙ last (omega arith)
]

pub at_below : {A : Type 0} (f : ℕ → A) (n i : ℕ) (d : A) → i < n → get_or (map f (below n)) i d ≡ f i
at_below f zero i d h = absurd (omega arith)
at_below f (suc n) i d h =
    rw (map-append f (below n) (n ∷ [])) (at_end (map f (below n)) (f n) d i n (f i) (length-map (below n) f ∙ length-below n) h
    (at_below f n i d) (λ e. ap f (sym e)))

pub at_numbers_to : {A : Type 0} (f : ℕ → A) (n i : ℕ) (d : A) → i < n → get_or (map f (numbers_to n)) i d ≡ f (suc i)
at_numbers_to f zero i d h = absurd (omega arith)
at_numbers_to f (suc n) i d h =
    rw (map-append f (numbers_to n) (suc n ∷ [])) (at_end (map f (numbers_to n)) (f (suc n)) d i n (f (suc i)) (length-map (numbers_to n) f ∙ length-numbers_to n) h
    (at_numbers_to f n i d) (λ e. ap (λ k. f (suc k)) (sym e)))

range_last : (a n : ℕ) → range_with_len a (suc n) ≡ range_with_len a n ++ (a + n) ∷ []
range_last a zero = ap (λ k. k ∷ []) (omega arith)
range_last a (suc n) = ap (λ xs. a ∷ xs) (range_last (a + 1) n ∙ ap (λ k. range_with_len (a + 1) n ++ k ∷ []) (omega arith))

-- from left to right
pub numbers_to-range : (n : ℕ) → numbers_to n ≡ range_with_len 1 n
numbers_to-range zero = refl
numbers_to-range (suc n) = sym (range_last 1 n ∙ rw (← numbers_to-range n) (ap (λ k. numbers_to n ++ k ∷ []) (omega arith)))

-- the first number whose element passes is the place of the first element that passes
find_range : {A : Type 0} (test : A → Bool) (g : ℕ → A) (xs : List A) (a : ℕ) (d : A) →
    ((k : ℕ) → k < length xs → g (a + k) ≡ get_or xs k d) → find (λ p. test (g p)) (range_with_len a (length xs)) ≡ position_from test a xs
find_range test g [] a d h = refl
find_range test g (x ∷ xs) a d h =
    let here : g a ≡ x = ap g (omega arith) ∙ h 0 (omega arith) in
    rw here (ap (λ o. cond (test x) (Some a) o) (find_range test g xs (a + 1) d (λ k l. ap g (omega arith) ∙ h (suc k) (omega arith))))

position_from_more : {A : Type 0} (test : A → Bool) (i : ℕ) (xs : List A) → option_map (λ place. place + 1) (position_from test i xs) ≡ position_from test (i + 1) xs
position_from_more test i [] = refl
position_from_more test i (x ∷ xs) = elim (cases_Bool (test x)) [
  | inl passes ↦ rw passes refl
  | inr fails ↦ rw fails (position_from_more test (i + 1) xs)
]

pub find-numbers_to : {A : Type 0} (test : A → Bool) (g : ℕ → A) (xs : List A) (d : A) →
    ((k : ℕ) → k < length xs → g (suc k) ≡ get_or xs k d) →
    option_map (λ place. place + 1) (position test xs) ≡ find (λ p. test (g p)) (numbers_to (length xs))
find-numbers_to test g xs d h =
    ap (option_map (λ place. place + 1)) (position_from-zero test xs) ∙ position_from_more test 0 xs
    ∙ sym (rw (numbers_to-range (length xs)) (find_range test g xs 1 d (λ k l. ap g (omega arith) ∙ h k l)))

pub find-filter : {A : Type 0} (first then : A → Bool) (xs : List A) → find then (filter first xs) ≡ find (λ x. first x && then x) xs
find-filter first then [] = refl
find-filter first then (x ∷ xs) = elim (cases_Bool (first x)) [
  | inl passes ↦ rw passes (ap (λ o. cond (then x) (Some x) o) (find-filter first then xs))
  | inr fails ↦ rw fails (find-filter first then xs)
]

pub numbers_to-within : (n m : ℕ) → n ≤ m → All (λ p. (1 ≤ p) × (p ≤ m)) (numbers_to n)
numbers_to-within zero m h = All-nil (λ p. (1 ≤ p) × (p ≤ m))
numbers_to-within (suc n) m h = All-push (λ p. (1 ≤ p) × (p ≤ m)) (numbers_to n) (suc n) (numbers_to-within n m (omega arith)) (omega arith, h)

-- ---- they rise

place : (n i : ℕ) → i < n → get_or (numbers_to n) i 0 ≡ 1 + i
place n i h = ap (λ xs. get_or xs i 0) (numbers_to-range n) ∙ get_or-range_with_len 1 n i 0 h

rising-numbers_to : (n : ℕ) → IsStrictlyIncreasing (numbers_to n)
rising-numbers_to n = λ k h.
    let long = length-numbers_to n in
    let here : get_or (numbers_to n) k 0 ≡ 1 + k = place n k (omega arith) in
    let next : get_or (numbers_to n) (k + 1) 0 ≡ 1 + (k + 1) = place n (k + 1) (omega arith) in
    omega arith

-- and so do those that are chosen
pub rising-chosen : (test : ℕ → Bool) (n : ℕ) → IsStrictlyIncreasing (filter test (numbers_to n))
rising-chosen test n = IsStrictlyIncreasing-filter test (numbers_to n) (rising-numbers_to n)
