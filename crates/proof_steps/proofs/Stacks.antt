-- What steps do to a stack of rows.
use Rattle.std.proofs.Common.{◌≡◌, ℕ, suc, ◌+◌, ◌<◌, Bool, true, false, List, [], ◌∷◌, length, get_or, drop, pos, if◌then◌else◌, Ok, Err, Result, refl, sym, ap, ◌∙◌, arith, add-one, drop-cons}
use Rattle.hrt_base.specs.declared.literal.Lit.{Lit}
use Rattle.pb_rows.specs.Terms.{PlainRow, weighing}
use Rattle.pb_rows.specs.Normal.{normal_form}
use Rattle.pb_rows.specs.Rows.{Fits, literal_row}
use Rattle.pb_rows.specs.Formula.{NumberedRow}
use Rattle.proof_rules.proofs.Fits.{fits-literal_row, true_fits}
use Rattle.proof_rules.proofs.Canonical.{normal_form-normal}
use Rattle.proof_lines.specs.declared.line.PolStep.{PolStep}
use Rattle.proof_rules.specs.Refusals.{Refusal, TooBig, and_then}
use Rattle.proof_rules.specs.Pol.{fits, on_top, push_made, run_step, run_steps}

-- the row that a literal is at least 0, as `from_terms` makes it
pub literal_row_is : (l : Lit) → normal_form (weighing 1 l ∷ []) (pos 0) ≡ literal_row l
literal_row_is l = normal_form-normal (literal_row l) (record { rising = (omega arith, omega arith, tt); fits = fits-literal_row l })

-- the row on top was changed and put back
pub on_top_made : (change : PlainRow → PlainRow) (row made : PlainRow) (stack rest : List PlainRow) (answer : Result (List PlainRow) Refusal) → stack ≡ row ∷ rest → made ≡ change row → push_made made rest ≡ answer → on_top change stack ≡ answer
on_top_made change row made stack rest answer e m p = ap (on_top change) e ∙ ap (λ r. push_made r rest) (sym m) ∙ p

-- it is too big
pub on_top_refused : (change : PlainRow → PlainRow) (row : PlainRow) (stack rest : List PlainRow) → stack ≡ row ∷ rest → (Fits (change row) → ⊥) → on_top change stack ≡ Err TooBig
on_top_refused change row stack rest e h = ap (on_top change) e ∙ by (fits (change row)) refl
  where
    by : (b : Bool) → fits (change row) ≡ b → push_made (change row) rest ≡ Err TooBig
    by true f = absurd (h (true_fits (change row) f))
    by false f = ap (λ b. if b then Ok (change row ∷ rest) else Err TooBig) f

-- the steps from place i on are the step there and those behind it
pub runs_next :
    (vars : ℕ) (live : List NumberedRow) (steps : List PolStep) (i : ℕ) (d : PolStep) (stack : List PlainRow) (answer : Result (List PlainRow) Refusal) →
    i < length steps → run_step vars live (get_or steps i d) stack ≡ answer →
    run_steps vars live (drop i steps) stack ≡ and_then answer (λ next. run_steps vars live (drop (i + 1) steps) next)
runs_next vars live steps i d stack answer h e =
    rw (drop-cons steps i d, add-one) (ap (λ r. and_then r (λ next. run_steps vars live (drop (suc i) steps) next)) e)
