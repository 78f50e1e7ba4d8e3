-- The steps of a `pol` line, one by one.
use Rattle.std.proofs.Common.{◌≡◌, ℕ, Bool, true, false, List, [], ◌∷◌, ◌++◌, Option, Some, None, refl, sym, ap, ◌∙◌, if◌then◌else◌}
use Rattle.std.specs.Prelude.{is_some, option_map, codes, bytes_eq}
use Rattle.std.specs.List.{list_all}
use Rattle.row_text.specs.declared.readings.Reading.TheVariants.{Unspelled, TooBig, Value}
use Rattle.row_text.specs.Numbers.{both, read_number, read_variable}
use Rattle.row_text.specs.Readings.{is_spelled, reading}
use Rattle.row_text.proofs.Kept.{value-read, big-read, unspelled-read, spelled-reading, some-read, none-read}
use Rattle.proof_lines.specs.declared.line.PolStep.{PolStep}
use Rattle.proof_lines.specs.declared.line.PolStep.TheVariants.{Times, Divide, Weaken}
use Rattle.proof_lines.specs.Spelling.{factor, is_small_step, read_step, read_steps}
use Rattle.proof_lines.specs.Steps.{first_step, steps_after}
use Rattle.proof_lines.proofs.Onto.{before, behind, one_more, some_both, all_push, big_list}

mapped : {A : Type 0} (make : A → PolStep) (o : Option A) (rest : Option (List PolStep)) → both (λ x steps. make x ∷ steps) o rest ≡ both before (option_map make o) rest
mapped make None rest = refl
mapped make (Some x) None = refl
mapped make (Some x) (Some steps) = refl

alone : (o : Option PolStep) → option_map (λ step. step ∷ []) o ≡ both before o (Some [])
alone None = refl
alone (Some step) = refl

by_tests : (times divide weaken : Bool) (t u : List ℕ) (ts : List (List ℕ))
    → (if times then both (λ k steps. Times k ∷ steps) (factor (read_number t)) (read_steps ts)
    else if divide then both (λ k steps. Divide k ∷ steps) (factor (read_number t)) (read_steps ts)
    else if weaken then both (λ v steps. Weaken v ∷ steps) (read_variable t) (read_steps ts)
    else both before (read_step t) (read_steps (u ∷ ts)))
    ≡ both before (if times then option_map Times (factor (read_number t)) else if divide then option_map Divide (factor (read_number t)) else if weaken then option_map Weaken (read_variable t) else read_step t)
    (read_steps (if times then ts else if divide then ts else if weaken then ts else u ∷ ts))
by_tests true divide weaken t u ts = mapped Times (factor (read_number t)) (read_steps ts)
by_tests false true weaken t u ts = mapped Divide (factor (read_number t)) (read_steps ts)
by_tests false false true t u ts = mapped Weaken (read_variable t) (read_steps ts)
by_tests false false false t u ts = refl

-- the first step, and those after it
pub steps-first : (t : List ℕ) (ts : List (List ℕ)) → read_steps (t ∷ ts) ≡ both before (first_step t ts) (read_steps (steps_after ts))
steps-first t [] = alone (read_step t)
steps-first t (u ∷ ts) = by_tests (bytes_eq u (codes "*")) (bytes_eq u (codes "d")) (bytes_eq u (codes "w")) t u ts

-- ---- the loops' steps

pub step_read : (whole : Option (List PolStep)) (front : List PolStep) (t : List ℕ) (ts : List (List ℕ)) (step : PolStep)
    → whole ≡ option_map (behind front) (read_steps (t ∷ ts)) → Value step ≡ reading is_small_step (first_step t ts)
    → whole ≡ option_map (behind (front ++ step ∷ [])) (read_steps (steps_after ts))
step_read whole front t ts step is kept =
    let v = value-read is_small_step (first_step t ts) step kept in
    is ∙ ap (option_map (behind front)) (steps-first t ts ∙ ap (λ (o : Option PolStep). both before o (read_steps (steps_after ts))) v.0) ∙ one_more front step (read_steps (steps_after ts))

pub step_small : (front : List PolStep) (t : List ℕ) (ts : List (List ℕ)) (step : PolStep) → list_all is_small_step front ≡ true
    → Value step ≡ reading is_small_step (first_step t ts) → list_all is_small_step (front ++ step ∷ []) ≡ true
step_small front t ts step all kept = all_push is_small_step front step all (value-read is_small_step (first_step t ts) step kept).1

pub no_step : (whole : Option (List PolStep)) (front : List PolStep) (t : List ℕ) (ts : List (List ℕ))
    → whole ≡ option_map (behind front) (read_steps (t ∷ ts)) → Unspelled ≡ reading is_small_step (first_step t ts) → whole ≡ None
no_step whole front t ts is kept =
    is ∙ ap (option_map (behind front)) (steps-first t ts ∙ ap (λ (o : Option PolStep). both before o (read_steps (steps_after ts))) (unspelled-read is_small_step (first_step t ts) kept))

pub big_step : (whole : Option (List PolStep)) (front : List PolStep) (t : List ℕ) (ts : List (List ℕ))
    → whole ≡ option_map (behind front) (read_steps (t ∷ ts)) → TooBig ≡ reading is_small_step (first_step t ts)
    → reading (list_all is_small_step) whole ≡ (if is_some (read_steps (steps_after ts)) then TooBig else Unspelled)
big_step whole front t ts is kept =
    let b = big-read is_small_step (first_step t ts) kept in
    ap (reading (list_all is_small_step)) (is ∙ ap (option_map (behind front)) (steps-first t ts ∙ ap (λ (o : Option PolStep). both before o (read_steps (steps_after ts))) b.1))
    ∙ big_list is_small_step front b.0 (read_steps (steps_after ts)) b.2

pub spelled_step : (t : List ℕ) (ts : List (List ℕ)) → is_spelled (reading is_small_step (first_step t ts)) ≡ true → is_some (read_steps (t ∷ ts)) ≡ is_some (read_steps (steps_after ts))
spelled_step t ts spelled =
    let r = some-read (first_step t ts) (sym (spelled-reading is_small_step (first_step t ts)) ∙ spelled) in
    ap is_some (steps-first t ts ∙ ap (λ (o : Option PolStep). both before o (read_steps (steps_after ts))) r.1) ∙ some_both before r.0 (read_steps (steps_after ts))

pub unspelled_step : (t : List ℕ) (ts : List (List ℕ)) → is_spelled (reading is_small_step (first_step t ts)) ≡ false → is_some (read_steps (t ∷ ts)) ≡ false
unspelled_step t ts unspelled =
    let r = none-read (first_step t ts) (sym (spelled-reading is_small_step (first_step t ts)) ∙ unspelled) in
    ap is_some (steps-first t ts ∙ ap (λ (o : Option PolStep). both before o (read_steps (steps_after ts))) r)
