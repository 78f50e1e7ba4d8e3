-- What is read, as the answer for a line.
use Rattle.std.proofs.Common.{◌≡◌, Bool, true, false, Option, Some, None, Result, Ok, Err, refl, if◌then◌else◌, List, [], ◌∷◌, length, ◌==◌, arith}
use Rattle.std.specs.Prelude.{option_map}
use Rattle.std.specs.List.{list_all}
use Rattle.std.proofs.lemmas.Bool.{eqb-true}
use Rattle.row_text.specs.declared.readings.Reading.{Reading}
use Rattle.row_text.specs.declared.readings.Reading.TheVariants.{Unspelled, TooBig, Value}
use Rattle.row_text.specs.Readings.{reading}
use Rattle.proof_lines.specs.declared.line.Line.{Line}
use Rattle.proof_lines.specs.declared.line.Line.TheVariants.{Pol, Rup, Conclusion}
use Rattle.proof_lines.specs.declared.refusal.LineKind.{LineKind}
use Rattle.proof_lines.specs.declared.refusal.LineKind.TheVariants.{Pol as pol_kind, Rup as rup_kind, Conclusion as conclusion_kind}
use Rattle.proof_lines.specs.declared.refusal.LineRefusal.{LineRefusal}
use Rattle.proof_lines.specs.declared.refusal.LineRefusal.TheVariants.{Syntax, TooBig as too_big}
use Rattle.proof_lines.specs.declared.line.PolStep.{PolStep}
use Rattle.proof_lines.specs.FirstLine.{judged}
use Rattle.proof_lines.specs.Spelling.{is_small_claim, is_small_step, one_or_more}
use Rattle.row_text.specs.Rows.{is_small_row}
use Rattle.pb_rows.specs.Terms.{Written}
use Rattle.proof_lines.specs.declared.line.Claim.{Claim}

abbrev pub answered : {A : Type 0} → (A → Line) → LineKind → Reading A → Result Line LineRefusal
answered make kind (Value x) = Ok (make x)
answered make kind TooBig = Err (too_big kind)
answered make kind Unspelled = Err Syntax

made : {A : Type 0} (make : A → Line) (kind : LineKind) (small : Bool) (x : A) → answered make kind (if small then Value x else TooBig) ≡ (if small then Ok (make x) else Err (too_big kind))
made make kind true x = refl
made make kind false x = refl

pub row-answered : (o : Option Written) → answered Rup rup_kind (reading is_small_row o) ≡ judged (option_map Rup o)
row-answered None = refl
row-answered (Some row) = made Rup rup_kind (is_small_row row) row

pub claim-answered : (o : Option Claim) → answered Conclusion conclusion_kind (reading is_small_claim o) ≡ judged (option_map Conclusion o)
claim-answered None = refl
claim-answered (Some claim) = made Conclusion conclusion_kind (is_small_claim claim) claim

-- steps, of which there must be one
abbrev pub some_steps : Reading (List PolStep) → Reading (List PolStep)
some_steps (Value []) = Unspelled
some_steps (Value (step ∷ steps)) = Value (step ∷ steps)
some_steps TooBig = TooBig
some_steps Unspelled = Unspelled

steps_made : (small : Bool) (step : PolStep) (steps : List PolStep) → answered Pol pol_kind (some_steps (if small then Value (step ∷ steps) else TooBig)) ≡ (if small then Ok (Pol (step ∷ steps)) else Err (too_big pol_kind))
steps_made true step steps = refl
steps_made false step steps = refl

pub steps-answered : (o : Option (List PolStep)) → answered Pol pol_kind (some_steps (reading (list_all is_small_step) o)) ≡ judged (option_map Pol (one_or_more o))
steps-answered None = refl
steps-answered (Some []) = refl
steps-answered (Some (step ∷ steps)) = steps_made (list_all is_small_step (step ∷ steps)) step steps

pub steps_none : (steps : List PolStep) → (length steps == 0) ≡ true → some_steps (Value steps) ≡ Unspelled
steps_none [] h = refl
steps_none (step ∷ steps) h = absurd (omega (arith, eqb-true (length (step ∷ steps)) 0 h))

pub steps_some : (steps : List PolStep) → (length steps == 0) ≡ false → some_steps (Value steps) ≡ Value steps
steps_some [] h = absurd cc
steps_some (step ∷ steps) h = refl
