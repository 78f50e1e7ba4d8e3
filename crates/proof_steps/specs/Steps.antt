-- When the steps of a `pol` line are refused.
use Rattle.std.specs.Prelude.{◌≡◌, ℕ, nat_le, if◌then◌else◌, List, ◌∷◌, Result, Ok, Err}
use Rattle.hrt_base.specs.declared.literal.Lit.{Lit}
use Rattle.pb_rows.specs.Terms.{IsPositive, PlainRow}
use Rattle.pb_rows.specs.Rows.{literal_row, weaken}
use Rattle.proof_lines.specs.declared.line.PolStep.{PolStep}
use Rattle.proof_lines.specs.declared.line.PolStep.TheVariants.{Times, Divide}
use Rattle.proof_rules.specs.Refusals as why
use Rattle.proof_rules.specs.Refusals.{Refusal}
use Rattle.proof_rules.specs.Pol.{on_top}
use Rattle.proof_steps.specs.declared.refusal.StepRefusal.{StepRefusal}
use Rattle.proof_steps.specs.declared.refusal.StepRefusal.TheVariants.{BadId, BadVariable, StackShape, TooBig, NoMemory}

-- the step's factor, if it has one, is at least 1
abbrev pub HasFactor : PolStep → Type 0
HasFactor (Times k) = IsPositive k
HasFactor (Divide k) = IsPositive k
HasFactor step = Unit {0}

-- the refusal is the one that the rules give; want of memory is none of theirs
abbrev pub Refuses : {A : Type 0} → Result A Refusal → StepRefusal → Type 0
Refuses answer (BadId n) = answer ≡ Err (why.BadId n)
Refuses answer (BadVariable v) = answer ≡ Err (why.BadVariable v)
Refuses answer StackShape = answer ≡ Err why.StackShape
Refuses answer TooBig = answer ≡ Err why.TooBig
Refuses answer NoMemory = Unit {0}

-- the stack under the row that the literal is at least 0, or the refusal of a variable above vars
abbrev pub push_axiom : ℕ → Lit → List PlainRow → Result (List PlainRow) Refusal
push_axiom vars l stack = if nat_le l.var vars then Ok (literal_row l ∷ stack) else Err (why.BadVariable l.var)

-- the stack with its top row weakened by the variable, or why that is refused
abbrev pub weaken_top : ℕ → ℕ → List PlainRow → Result (List PlainRow) Refusal
weaken_top vars v stack = if nat_le v vars then on_top (weaken v) stack else Err (why.BadVariable v)
