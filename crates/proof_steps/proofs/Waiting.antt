-- Weakenings that wait: one alone, one more, and a stack that is read from the end of a list.
use Rattle.std.proofs.Common.{◌≡◌, ◌∙◌, ◌<◌, ◌-◌, ℕ, List, [], ◌∷◌, ◌++◌, length, get_or, reverse, Ok, refl, ap, sym, subst, arith}
use Rattle.std.proofs.lemmas.List.{get_or-reverse, length-reverse}
use Rattle.pb_rows.specs.Terms.{PlainRow}
use Rattle.pb_rows.specs.Rows.{IsWellFormedRow, weaken, weaken_all}
use Rattle.pb_rows.proofs.Weakenings.{weaken_all-normal}
use Rattle.proof_rules.specs.Pol.{on_top}
use Rattle.proof_rules.proofs.Fits.{fits_true}
use Rattle.proof_steps.specs.Waiting.{weakened}

-- one variable more
weakens_more : (vars : List ℕ) (v : ℕ) (row : PlainRow) → weaken_all (vars ++ v ∷ []) row ≡ weaken v (weaken_all vars row)
weakens_more [] v row = refl
weakens_more (u ∷ us) v row = weakens_more us v (weaken u row)

weakens_first : (vars : List ℕ) (v : ℕ) (row : PlainRow) (rows : List PlainRow) → 0 < length rows → get_or rows 0 row ≡ row → IsWellFormedRow row → on_top (weaken v) (weakened vars rows) ≡ Ok (weakened (vars ++ v ∷ []) rows)
weakens_first vars v row [] h e w = absurd (omega (arith, h))
weakens_first vars v row (r ∷ rows) h e w =
    let more = weakens_more vars v r in
    let normal : IsWellFormedRow (weaken v (weaken_all vars r)) = subst IsWellFormedRow more (weaken_all-normal (vars ++ v ∷ []) r (subst IsWellFormedRow (sym e) w)) in
    rw more (rw (fits_true (weaken v (weaken_all vars r)) normal.fits) refl)

-- one variable more waits for the last row of a list, which is on top
pub weakens_last :
    (vars more : List ℕ) (v : ℕ) (row : PlainRow) (rows before : List PlainRow) →
    weakened vars (reverse rows) ≡ before → 0 < length rows → row ≡ get_or rows (length rows - 1) row → IsWellFormedRow row → more ≡ vars ++ v ∷ [] → on_top (weaken v) before ≡ Ok (weakened more (reverse rows))
weakens_last vars more v row rows before b h e w m =
    let long : 0 < length (reverse rows) = omega (arith, length-reverse rows, h) in
    let first : get_or (reverse rows) 0 row ≡ row = get_or-reverse rows 0 row h ∙ ap (λ n. get_or rows n row) (omega arith) ∙ sym e in
    ap (on_top (weaken v)) (sym b) ∙ weakens_first vars v row (reverse rows) long first w ∙ ap (λ vs. Ok (weakened vs (reverse rows))) (sym m)
