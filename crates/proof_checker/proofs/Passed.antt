-- The lines of a proof, one after another, up to its verdict.
use Rattle.std.proofs.Common.{◌≡◌, ℕ, ◌+◌, ◌-◌, ◌<◌, ◌≤◌, List, [], ◌∷◌, ◌++◌, length, map, take, drop, inl, inr, refl, sym, ap, ap₂, ◌∙◌, subst, arith, append_assoc, append-nil, length-append, length-drop}
use Rattle.std.specs.Prelude.{Some, Result, Ok, Err, IfOk, IfSome}
use Rattle.std.proofs.lemmas.List.{take_all}
use Rattle.pb_rows.specs.Formula.{Formula}
use Rattle.proof_lines.specs.declared.line.Claim.{Claim}
use Rattle.proof_lines.specs.declared.line.Line.{Line}
use Rattle.proof_lines.specs.Spelling.{read_line}
use Rattle.proof_rules.specs.Refusals as why
use Rattle.proof_rules.specs.Refusals.{Refusal}
use Rattle.proof_rules.specs.States.{State}
use Rattle.proof_rules.specs.Valid as place
use Rattle.proof_rules.specs.Valid.{Moves, Place}
use Rattle.proof_rules.specs.Texts.{Cut, HasVerdict, IsRefusedText, IsTruncated, IsValidText, Reaches, Reading, Stops, all_lines, cut, last_line, whole_lines}
use Rattle.proof_rules.specs.Sound.{HasNormalRows, IsTrueClaim}
use Rattle.proof_rules.proofs.Pieces.{reaches-append, stops-after}
use Rattle.proof_rules.proofs.Verdicts.{reached-sound, texts_sound, truncated-from}
use Rattle.proof_checker.specs.declared.fault.Fault.{Fault}
use Rattle.proof_checker.specs.declared.fault.Fault.TheVariants as fault
use Rattle.proof_checker.specs.declared.refusal.ProofRefusal.{ProofRefusal}
use Rattle.proof_checker.specs.declared.refusal.ProofRefusal.TheVariants as refusal
use Rattle.proof_checker.specs.declared.stage.Stage.{Stage}
use Rattle.proof_checker.specs.declared.stage.Stage.TheVariants as stage
use Rattle.proof_checker.specs.Answers.{refusal_verdict, verdict_of}
use Rattle.proof_checker.specs.Faults.{at_line}
use Rattle.proof_checker.specs.Places.{IsSoundAt, place_of}
use Rattle.proof_checker.specs.Endings.{EndsEarly, EndsWith, EndsWrong, IsPassed, StopsFirst}

-- ---- one line

-- all that follows a place
pub to-end : (xs : List ℕ) (k : ℕ) → take (length xs - k) (drop k xs) ≡ drop k xs
to-end xs k = take_all (length xs - k) (drop k xs) (omega (arith, length-drop k xs))

pub passed-on : (f : Formula) (bytes left : List ℕ) (lines len : ℕ) (here there : Place) (line : Line) → IsPassed f bytes left lines here → Moves f here line there →
    whole_lines left ≡ Some line ∷ whole_lines (drop len left) → (cut left).rest ≡ (cut (drop len left)).rest → 0 < len → len ≤ length left → IsPassed f bytes (drop len left) (lines + 1) there
passed-on f bytes left lines len here there line p moves whole rest some within = record {
  done = p.done ++ Some line ∷ [];
  count = omega (arith, p.count, length-append p.done (Some line ∷ []));
  reaches = reaches-append f place.Start p.done (Some line ∷ []) here there p.reaches (there, moves, refl);
  whole = p.whole ∙ ap (λ (lines : Reading). p.done ++ lines) whole ∙ sym (append_assoc p.done (Some line ∷ []) (whole_lines (drop len left)));
  rest = p.rest ∙ rest;
  within = omega (arith, p.within, length-drop len left);
}

-- ---- what holds on the way

place_sound : (f : Formula) (s : Stage) (state : State) → HasNormalRows f → (done : Reading) → Reaches f place.Start done (place_of s state) → IsSoundAt f s state
place_sound f stage.Start state n done r = tt
place_sound f stage.Headed state n done r = tt
place_sound f stage.Proving state n done r = tt
place_sound f stage.Closing state n done r = reached-sound f place.Start done (place.Closing state) n r
place_sound f (stage.Claimed c) state n done r = tt
place_sound f (stage.Done c) state n done r = tt

pub passed-sound : (f : Formula) (bytes left : List ℕ) (lines : ℕ) (s : Stage) (state : State) → HasNormalRows f → IsPassed f bytes left lines (place_of s state) → IsSoundAt f s state
passed-sound f bytes left lines s state n p = place_sound f s state n p.done p.reaches

-- ---- a line that is refused

refused_text : (f : Formula) (bytes left : List ℕ) (lines : ℕ) (here : Place) (reason : Refusal) → IsPassed f bytes left lines here → Stops f here (whole_lines left) 0 reason → IsRefusedText f bytes lines reason
refused_text f bytes left lines here reason p s =
    let count : length p.done + 0 ≡ lines = omega (arith, p.count) in
    inl (subst (λ (read : Reading). Stops f place.Start read lines reason) (sym p.whole)
    (subst (λ (n : ℕ). Stops f place.Start (p.done ++ whole_lines left) n reason) count (stops-after f place.Start p.done (whole_lines left) here 0 reason p.reaches s)))

pub halted : (f : Formula) (bytes left : List ℕ) (lines : ℕ) (here : Place) (e : Fault) → IsPassed f bytes left lines here → StopsFirst f here left e → IfSome (refusal_verdict (at_line (lines + 1) e)) (HasVerdict f bytes)
halted f bytes left lines here fault.Syntax p s = (lines, refl, refused_text f bytes left lines here why.Syntax p s)
halted f bytes left lines here fault.TooBig p s = (lines, refl, refused_text f bytes left lines here why.TooBig p s)
halted f bytes left lines here (fault.BadId id) p s = (lines, refl, refused_text f bytes left lines here (why.BadId id) p s)
halted f bytes left lines here (fault.BadVariable v) p s = (lines, refl, refused_text f bytes left lines here (why.BadVariable v) p s)
halted f bytes left lines here fault.StackShape p s = (lines, refl, refused_text f bytes left lines here why.StackShape p s)
halted f bytes left lines here fault.NotFull p s = (lines, refl, refused_text f bytes left lines here why.NotFull p s)
halted f bytes left lines here (fault.NotASolution n) p s = (lines, refl, refused_text f bytes left lines here (why.NotASolution n) p s)
halted f bytes left lines here fault.NotImplied p s = (lines, refl, refused_text f bytes left lines here why.NotImplied p s)
halted f bytes left lines here fault.BoundNotShown p s = (lines, refl, refused_text f bytes left lines here why.BoundNotShown p s)
halted f bytes left lines here fault.WrongCount p s = (lines, refl, refused_text f bytes left lines here why.WrongCount p s)
halted f bytes left lines here fault.NoMemory p s = tt

-- ---- the end

module _ (f : Formula) (bytes left : List ℕ) (lines : ℕ) (here : Place) (p : IsPassed f bytes left lines here) (none : cut left ≡ record { whole = []; rest = left }) where
  all_done : whole_lines bytes ≡ p.done
  all_done = p.whole ∙ ap (λ (c : Cut). p.done ++ map read_line c.whole) none ∙ append-nil p.done

  rest_left : (cut bytes).rest ≡ left
  rest_left = p.rest ∙ ap (λ (c : Cut). c.rest) none

  all_reached : Reaches f place.Start (whole_lines bytes) here
  all_reached = subst (λ (read : Reading). Reaches f place.Start read here) (sym all_done) p.reaches

  all_are : all_lines bytes ≡ p.done ++ last_line left
  all_are = ap₂ (λ (read : Reading) (rest : List ℕ). read ++ last_line rest) all_done rest_left

  ended_valid : (claim : Claim) → Reaches f here (last_line left) (place.Done claim) → IsValidText f bytes claim
  ended_valid claim r = subst (λ (read : Reading). Reaches f place.Start read (place.Done claim)) (sym all_are) (reaches-append f place.Start p.done (last_line left) here (place.Done claim) p.reaches r)

  ended_early : EndsEarly f here left → IsTruncated f bytes
  ended_early e = truncated-from f bytes here all_reached e.not_done (λ claim r. e.not_ended claim (subst (λ (rest : List ℕ). Reaches f here (last_line rest) (place.Done claim)) rest_left r))

  ended_wrong : EndsWrong f here left → IsRefusedText f bytes lines why.Syntax
  ended_wrong e =
      let count : length p.done + 0 ≡ lines = omega (arith, p.count) in
      inr (
        e.claim,
        subst (λ (there : Place). Reaches f place.Start (whole_lines bytes) there) e.done all_reached,
        subst (λ (read : Reading). Stops f place.Start read lines why.Syntax) (sym all_are)
            (subst (λ (n : ℕ). Stops f place.Start (p.done ++ last_line left) n why.Syntax) count (stops-after f place.Start p.done (last_line left) here 0 why.Syntax p.reaches e.stops)),
      )

  pub ended : (result : Result Claim ProofRefusal) → EndsWith f here left (lines + 1) result → IfSome (verdict_of result) (HasVerdict f bytes)
  ended (Ok claim) e = ended_valid claim e
  ended (Err refusal.Truncated) e = ended_early e
  ended (Err (refusal.Syntax n)) e = (lines, e.0, ended_wrong e.1)
  ended (Err (refusal.BadId n id)) e = absurd e
  ended (Err (refusal.BadVariable n v)) e = absurd e
  ended (Err (refusal.StackShape n)) e = absurd e
  ended (Err (refusal.TooBig n)) e = absurd e
  ended (Err (refusal.NotFull n)) e = absurd e
  ended (Err (refusal.NotImplied n)) e = absurd e
  ended (Err (refusal.NotASolution n row)) e = absurd e
  ended (Err (refusal.BoundNotShown n)) e = absurd e
  ended (Err (refusal.WrongCount n)) e = absurd e
  ended (Err refusal.NoMemory) e = absurd e

  pub ended-sound : (result : Result Claim ProofRefusal) → HasNormalRows f → EndsWith f here left (lines + 1) result → IfOk result (IsTrueClaim f)
  ended-sound (Ok claim) n e = texts_sound f bytes claim n (ended_valid claim e)
  ended-sound (Err other) n e = tt
