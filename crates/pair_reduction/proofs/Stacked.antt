-- The stack of the lists that wait.
use Rattle.std.proofs.Common.{◌≡◌, ℕ, ◌+◌, ◌-◌, ◌<◌, Bool, false, ◌==◌, List, [], ◌∷◌, ◌++◌, length, take, get_or, sym, ap, ◌∙◌, inl, inr, arith}
use Rattle.std.proofs.lemmas.Bool.{eqb-true, or_cases, true≢false}
use Rattle.std.proofs.lemmas.List.{get_or_default, take_all, take_more}
use Rattle.std.proofs.lemmas.List.Folds.{list_any-append}
use Rattle.rank_tables.specs.Numbers.{is_in}
use Rattle.pair_reduction.specs.Flags.{AreStacked, is_waiting}

-- what waits isn't the last, which doesn't
pub stacked_front : (flags : List Bool) (stack rest : List ℕ) (d : ℕ) → 0 < length stack → rest ≡ take (length stack - 1) stack → is_waiting flags (get_or stack (length stack - 1) d) ≡ false → AreStacked flags stack → AreStacked flags rest
stacked_front flags stack rest d some front gone stacked n h =
    let last : ℕ = get_or stack (length stack - 1) d in
    let whole : stack ≡ rest ++ get_or stack (length stack - 1) d ∷ [] =
    sym (take_all (length stack - 1 + 1) stack (omega arith)) ∙ take_more stack (length stack - 1) d (omega arith) ∙ ap (λ (xs : List ℕ). xs ++ get_or stack (length stack - 1) d ∷ []) (sym front) in
    elim (or_cases (is_in n rest) (is_in n (get_or stack (length stack - 1) d ∷ [])) (sym (list_any-append (λ y. y == n) rest (get_or stack (length stack - 1) d ∷ [])) ∙ ap (is_in n) (sym whole) ∙ stacked n h)) [
      | inl e ↦ e
      | inr e ↦ elim (or_cases (get_or stack (length stack - 1) d == n) false e) [
        | inl f ↦ absurd (true≢false (sym h ∙ ap (is_waiting flags) (sym (eqb-true (get_or stack (length stack - 1) d) n f)) ∙ gone))
        | inr f ↦ absurd (cc)
      ]
    ]

-- the last of the stack, as it was read
pub not_waiting : (flags : List Bool) (stack : List ℕ) (len n : ℕ) (b : Bool) → len ≡ length stack → n ≡ get_or stack (len - 1) n → b ≡ get_or flags n b → n < length flags → b ≡ false → is_waiting flags (get_or stack (length stack - 1) n) ≡ false
not_waiting flags stack len n b size here is within e =
    ap (λ (k : ℕ). get_or flags k false) (ap (λ (k : ℕ). get_or stack (k - 1) n) (sym size) ∙ sym here) ∙ get_or_default flags n false b within ∙ sym is ∙ e
