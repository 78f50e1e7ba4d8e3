-- The stack machine of `pol` lines.
use Rattle.std.specs.Prelude.{ℕ, ◌^◌, Bool, ◌&&◌, nat_le, if◌then◌else◌, List, [], ◌∷◌, Option, Some, None, Result, Ok, Err}
use Rattle.std.specs.List.{list_all}
use Rattle.pb_rows.specs.Terms.{PlainRow, coef_sum, positive_part}
use Rattle.pb_rows.specs.Rows.{add, divide, literal_row, saturate, times, weaken}
use Rattle.pb_rows.specs.Formula.{NumberedRow, row_of}
use Rattle.proof_lines.specs.declared.line.PolStep.{PolStep}
use Rattle.proof_lines.specs.declared.line.PolStep.TheVariants.{Id, Axiom, Add, Times, Divide, Saturate, Weaken}
use Rattle.proof_lines.specs.Spelling.{is_small_step}
use Rattle.proof_rules.specs.Refusals.{Refusal, BadId, BadVariable, StackShape, TooBig, and_then}

-- ---- a stack of rows, the top one first

-- whether the coefficients sum to at most 2^120, and the degree is at most that
abbrev pub fits : PlainRow → Bool
fits row = nat_le (coef_sum row.terms) (2 ^ 120) && nat_le row.degree (2 ^ 120)

-- a row that was made goes on the stack
abbrev pub push_made : PlainRow → List PlainRow → Result (List PlainRow) Refusal
push_made row stack = if fits row then Ok (row ∷ stack) else Err TooBig

-- the live row with number n goes on the stack, if there is one
abbrev pub push_live : ℕ → Option PlainRow → List PlainRow → Result (List PlainRow) Refusal
push_live n None stack = Err (BadId n)
push_live n (Some row) stack = Ok (row ∷ stack)

-- the changed top row takes the place of the top row
abbrev pub on_top : (PlainRow → PlainRow) → List PlainRow → Result (List PlainRow) Refusal
on_top change [] = Err StackShape
on_top change (row ∷ stack) = push_made (change row) stack

-- the sum of the two top rows takes their place
abbrev pub add_top : List PlainRow → Result (List PlainRow) Refusal
add_top [] = Err StackShape
add_top (b ∷ []) = Err StackShape
add_top (b ∷ a ∷ stack) = push_made (add a b) stack

-- the stack after a step, or why it is refused; the variables are those up to `vars`
abbrev pub run_step : ℕ → List NumberedRow → PolStep → List PlainRow → Result (List PlainRow) Refusal
run_step vars live (Id n) stack = push_live n.0 (row_of n.0 live) stack
run_step vars live (Axiom l) stack = if nat_le l.var vars then Ok (literal_row l ∷ stack) else Err (BadVariable l.var)
run_step vars live Add stack = add_top stack
run_step vars live (Times k) stack = on_top (times (positive_part k)) stack
run_step vars live (Divide k) stack = on_top (divide (positive_part k)) stack
run_step vars live Saturate stack = on_top saturate stack
run_step vars live (Weaken v) stack = if nat_le v vars then on_top (weaken v) stack else Err (BadVariable v)

-- the stack after the steps, from left to right, or the refusal of the first that fails
abbrev pub run_steps : ℕ → List NumberedRow → List PolStep → List PlainRow → Result (List PlainRow) Refusal
run_steps vars live [] stack = Ok stack
run_steps vars live (step ∷ steps) stack = and_then (run_step vars live step stack) (λ next. run_steps vars live steps next)

-- the one row that is left, or `StackShape`
abbrev pub only_row : List PlainRow → Result PlainRow Refusal
only_row [] = Err StackShape
only_row (row ∷ []) = Ok row
only_row (row ∷ other ∷ stack) = Err StackShape

-- ---- the line

-- the row that a `pol` line makes, or why not: a written number that is too big comes before all else
abbrev pub pol_row : ℕ → List NumberedRow → List PolStep → Result PlainRow Refusal
pol_row vars live steps = if list_all is_small_step steps then and_then (run_steps vars live steps []) only_row else Err TooBig
