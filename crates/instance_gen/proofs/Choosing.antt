-- The residents that chose a hospital, by one resident more.
use Rattle.std.proofs.Common.{◌≡◌, ◌+◌, ◌-◌, ◌≤◌, ◌++◌, ◌&&◌, ℕ, zero, suc, Bool, true, false, List, [], ◌∷◌, length, filter, get_or, cond, refl, sym, ap, ◌∙◌, arith, append-nil, nat_eq, nat_lt, true≢false}
use Rattle.std.specs.List.{list_all}
use Rattle.std.proofs.lemmas.Bool.{and_parts}
use Rattle.std.proofs.lemmas.Bool.Decides.{nat_tests}
use Rattle.std.proofs.lemmas.List.Folds.{list_all-append, list_all_at}
use Rattle.std.proofs.lemmas.List.Elements.{filter-append}
use Rattle.rank_tables.specs.Numbers.{below}
use Rattle.instance_gen.specs.Rows.{ends_with, with_chooser}

both : (a b : Bool) → a ≡ true → b ≡ true → (a && b) ≡ true
both a b x y = rw (x, y) refl

pub is_below : (n m : ℕ) → n ≤ m → list_all (λ x. nat_lt x m) (below n) ≡ true
is_below zero m h = refl
is_below (suc n) m h =
    let last : nat_lt n m ≡ true = grind (arith, nat_tests) in
    list_all-append (λ x. nat_lt x m) (below n) (n ∷ []) ∙ both (list_all (λ x. nat_lt x m) (below n)) (nat_lt n m && true) (is_below n m (omega arith)) (both (nat_lt n m) true last refl)

pub filter_all : (p t : ℕ → Bool) (xs : List ℕ) → list_all p xs ≡ true → list_all p (filter t xs) ≡ true
filter_all p t [] h = refl
filter_all p t (x ∷ xs) h = by (t x) (and_parts (p x) (list_all p xs) h).0 (filter_all p t xs (and_parts (p x) (list_all p xs) h).1)
  where
    by : (b : Bool) → p x ≡ true → list_all p (filter t xs) ≡ true → list_all p (cond b (x ∷ filter t xs) (filter t xs)) ≡ true
    by true here rest = both (p x) (list_all p (filter t xs)) here rest
    by false here rest = rest

-- a list of numbers below n doesn't end with n
no_end : (n : ℕ) (xs : List ℕ) → list_all (λ x. nat_lt x n) xs ≡ true → ends_with n xs ≡ false
no_end n [] h = refl
no_end n (x ∷ xs) h = by (nat_lt (get_or (x ∷ xs) (length (x ∷ xs) - 1) 0) n) refl
  where
    by : (b : Bool) → nat_lt (get_or (x ∷ xs) (length (x ∷ xs) - 1) 0) n ≡ b → ends_with n (x ∷ xs) ≡ false
    by true e =
        let some : nat_eq (length (x ∷ xs)) 0 ≡ false = grind (arith, nat_tests) in
        let other : nat_eq (get_or (x ∷ xs) (length (x ∷ xs) - 1) 0) n ≡ false = grind (arith, nat_tests) in
        rw (some, other) refl
    by false e = absurd (true≢false (sym h ∙ list_all_at (λ y. nat_lt y n) (x ∷ xs) (length (x ∷ xs) - 1) 0 (omega arith) e))

one_more : (t : ℕ → Bool) (n : ℕ) → filter t (below (n + 1)) ≡ filter t (below n) ++ cond (t n) (n ∷ []) []
one_more t n = let e : n + 1 ≡ suc n = omega arith in rw e (filter-append t (below n) (n ∷ []))

-- the row of those that pass a test, with the next number where it passes
pub row_more : (t : ℕ → Bool) (n : ℕ) (b : Bool) → b ≡ t n → with_chooser n b (filter t (below n)) ≡ filter t (below (n + 1))
row_more t n true e =
    let end : ends_with n (filter t (below n)) ≡ false = no_end n (filter t (below n)) (filter_all (λ x. nat_lt x n) t (below n) (is_below n n (omega arith))) in
    rw end (sym (one_more t n ∙ ap (λ (b : Bool). filter t (below n) ++ cond b (n ∷ []) []) (sym e)))
row_more t n false e = sym (one_more t n ∙ ap (λ (b : Bool). filter t (below n) ++ cond b (n ∷ []) []) (sym e) ∙ append-nil (filter t (below n)))
