-- The states that the code keeps.
use Rattle.std.specs.Prelude.{◌≡◌, ◌≤◌, ◌+◌, ℕ, ℤ, List, Some}
use Rattle.std.specs.List.{All}
use Rattle.pb_rows.specs.Terms.{PlainRow}
use Rattle.pb_rows.specs.Formula.{Formula, NumberedRow}
use Rattle.proof_lines.specs.declared.line.Line.{Line}
use Rattle.proof_rules.specs.States.{State, IsInOrder, live_rows, smaller, with_row}
use Rattle.proof_rules.specs.Valid.{Moves, Proving}
use Rattle.propagation.specs.Following.{IsOver}

-- A state of a proof of a formula over the variables 1 to vars.
pub record Kept : Type 0 where
  pub vars : ℕ
  pub state : State

-- the rows are in order, and over the variables
pub record IsKeptOver (vars : ℕ) (s : State) : Type 0 where
  pub ordered : IsInOrder s
  pub over : All (IsOver vars) (live_rows s)

-- where the one rows are kept so, the others are
abbrev pub StaysKept : ℕ → List NumberedRow → List NumberedRow → Type 0
StaysKept vars old new = (s : State) → IsKeptOver vars (record s { live = old }) → IsKeptOver vars (record s { live = new })

-- a row is made live
abbrev pub with_new_row : PlainRow → Kept → Kept
with_new_row row kept = record kept { state = with_row kept.state row }

-- other rows are live
abbrev pub with_rows : List NumberedRow → Kept → Kept
with_rows live kept = record kept { state = record kept.state { live = live } }

-- a value is logged, and the row of its solution made live
abbrev pub with_solution : ℤ → PlainRow → Kept → Kept
with_solution v row kept = record kept { state = record (with_row kept.state row) { least = Some (smaller kept.state.least v) } }

-- the line is a step from the one state to the other
pub record Steps (f : Formula) (line : Line) (old new : Kept) : Type 0 where
  pub moves : Moves f (Proving old.state) line (Proving new.state)
  pub vars : new.vars ≡ old.vars
  pub next : new.state.next ≤ old.state.next + 1
