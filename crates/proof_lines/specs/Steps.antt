-- The first step of a `pol` line.
use Rattle.std.specs.Prelude.{ℕ, if◌then◌else◌, List, [], ◌∷◌, Option, option_map, bytes_eq, codes}
use Rattle.row_text.specs.Numbers.{read_number, read_variable}
use Rattle.proof_lines.specs.declared.line.PolStep.{PolStep}
use Rattle.proof_lines.specs.declared.line.PolStep.TheVariants.{Times, Divide, Weaken}
use Rattle.proof_lines.specs.Spelling.{factor, read_step}

-- the step that the first token and the one behind it, if any, spell
abbrev pub first_step : List ℕ → List (List ℕ) → Option PolStep
first_step t [] = read_step t
first_step t (u ∷ us) =
    if bytes_eq u (codes "*") then option_map Times (factor (read_number t))
    else if bytes_eq u (codes "d") then option_map Divide (factor (read_number t))
    else if bytes_eq u (codes "w") then option_map Weaken (read_variable t)
    else read_step t

-- what of the tokens behind the first is left after its step
abbrev pub steps_after : List (List ℕ) → List (List ℕ)
steps_after [] = []
steps_after (u ∷ us) =
    if bytes_eq u (codes "*") then us
    else if bytes_eq u (codes "d") then us
    else if bytes_eq u (codes "w") then us
    else u ∷ us
