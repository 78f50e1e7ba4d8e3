-- How far a text has come, and what a line does.
use Rattle.std.specs.Prelude.{◌≡◌, ℕ, ◌&&◌, Bool, true, false, nat_lt, if◌then◌else◌, List, [], ◌∷◌, ◌++◌, find, Option, Some, None}
use Rattle.hrt_reader.specs.declared.refusals.Flaw.{Flaw}
use Rattle.hrt_reader.specs.declared.stages.Stage.{Stage}
use Rattle.hrt_reader.specs.declared.stages.Stage.TheVariants as stage
use Rattle.hrt_reader.specs.declared.stages.Step.{Step}
use Rattle.hrt_reader.specs.declared.stages.Step.TheVariants as step
use Rattle.hrt_text.specs.Text.{Row}
use Rattle.hrt_reader.specs.Refusal.{all_blank, is_headed, is_finished, is_open, stands, stands_by_form, declared_residents, declared_hospitals}
use Rattle.hrt_text.specs.Grammar.{Form, is_blank}
use Rattle.hrt_reader.specs.Kinds.{flaw_number}

-- lines have come to this stage
abbrev pub IsStage : Stage → List Row → Type 0
IsStage stage.Start before = all_blank before ≡ true
IsStage stage.Open before = is_open before ≡ true
IsStage stage.Ended before = (is_headed before ≡ true) × (is_finished before ≡ true)

-- the least kind in a line, but for 6, which is looked for last, and 9, which the end of the text decides
unfoldable pub kind_early : List Row → Row → List Row → Option ℕ
kind_early before row after = find (λ n. stands n before row after) (1 ∷ 2 ∷ 3 ∷ 4 ∷ 5 ∷ 7 ∷ 8 ∷ 10 ∷ 11 ∷ 12 ∷ [])

-- the least kind in a line but for 6
unfoldable pub kind_there : List Row → Row → List Row → Option ℕ
kind_there before row after = find (λ n. stands n before row after) (1 ∷ 2 ∷ 3 ∷ 4 ∷ 5 ∷ 7 ∷ 8 ∷ 9 ∷ 10 ∷ 11 ∷ 12 ∷ [])

-- the least kind of a line between the header and `end`, by its form, but for 6 and 9
abbrev pub kind_by_form : List Row → Form → List Row → Option ℕ
kind_by_form before form all = find (λ n. stands_by_form n before form all) (2 ∷ 3 ∷ 4 ∷ 5 ∷ 7 ∷ 8 ∷ 11 ∷ 12 ∷ [])

-- the line leaves the text at this stage, with these names; or it has this flaw
abbrev pub StepsTo : List Row → Row → List Row → List (List ℕ) → List (List ℕ) → Step → Type 0
StepsTo before row after residents hospitals (step.Next next) =
    (kind_early before row after ≡ None) × IsStage next (before ++ row ∷ [])
    × (declared_residents (before ++ row ∷ []) ≡ residents) × (declared_hospitals (before ++ row ∷ []) ≡ hospitals)
StepsTo before row after residents hospitals (step.Refused flaw) = (is_blank row ≡ false) × (kind_there before row after ≡ Some (flaw_number flaw))

-- the line of a declaration with this flaw, if it has one: in the last line a missing end, 9, comes before what has a greater number
abbrev pub StepsBy : Option Flaw → Bool → Step → Type 0
StepsBy None is_last made = made ≡ step.Next stage.Open
StepsBy (Some flaw) is_last (step.Next next) = ⊥
StepsBy (Some flaw) is_last (step.Refused found) = flaw_number found ≡ (if nat_lt 9 (flaw_number flaw) && is_last then 9 else flaw_number flaw)
