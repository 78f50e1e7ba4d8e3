-- Where lines lead, by the stage and the state that the code keeps.
use Rattle.std.specs.Prelude.{◌≡◌, ◌≤◌, ◌<◌, ◌+◌, ◌^◌}
use Rattle.pb_rows.specs.Formula.{Formula}
use Rattle.proof_lines.specs.declared.line.Line.{Line}
use Rattle.proof_rules.specs.States.{State, first_state}
use Rattle.proof_rules.specs.Valid as place
use Rattle.proof_rules.specs.Valid.{Moves, Place}
use Rattle.proof_rules.specs.Sound.{IsSoundState}
use Rattle.proof_checker.specs.declared.fault.Fault.{Fault}
use Rattle.proof_checker.specs.declared.stage.Stage.{Stage}
use Rattle.proof_checker.specs.declared.stage.Stage.TheVariants.{Start, Headed, Proving, Closing, Claimed, Done}
use Rattle.proof_checker.specs.Faults.{Halts}
use Rattle.proof_checker.specs.Kept.{Kept}

-- the place of the rules at which the code is, by its stage and the state that it keeps
abbrev pub place_of : Stage → State → Place
place_of Start s = place.Start
place_of Headed s = place.Headed
place_of Proving s = place.Proving s
place_of Closing s = place.Closing s
place_of (Claimed claim) s = place.Claimed claim
place_of (Done claim) s = place.Done claim

-- before the steps, the state is the one in which they begin
abbrev pub IsFirstAt : Formula → Stage → State → Type 0
IsFirstAt f Start s = s ≡ first_state f
IsFirstAt f Headed s = s ≡ first_state f
IsFirstAt f stage s = Unit {0}

-- what the code keeps fits the stage: the variables are the formula's, and before the steps the state is the first
pub record IsAt (f : Formula) (stage : Stage) (kept : Kept) : Type 0 where
  pub vars : kept.vars ≡ f.vars
  pub first : IsFirstAt f stage kept.state

-- where the conclusion is due, the state is sound
abbrev pub IsSoundAt : Formula → Stage → State → Type 0
IsSoundAt f Closing s = IsSoundState f s
IsSoundAt f stage s = Unit {0}

-- among the steps, there are numbers left for rows
abbrev pub HasRoomAt : Stage → State → Type 0
HasRoomAt Proving s = s.next < 2 ^ 63
HasRoomAt stage s = Unit {0}

-- the line leads from the one to the other
pub record Goes (f : Formula) (line : Line) (from : Stage) (old : Kept) (to : Stage) (new : Kept) : Type 0 where
  pub moves : Moves f (place_of from old.state) line (place_of to new.state)
  pub stands : IsAt f to new
  pub next : new.state.next ≤ old.state.next + 1

-- the line leads from the one stage to the other, for whatever formula and in whatever state
abbrev pub AlwaysLeads : Line → Stage → Stage → Type 0
AlwaysLeads line from to = (f : Formula) (kept : Kept) → IsAt f from kept → Goes f line from kept to kept

-- the line is refused, for whatever formula and in whatever state
abbrev pub AlwaysHalts : Line → Stage → Fault → Type 0
AlwaysHalts line from fault = (f : Formula) (s : State) → Halts f (place_of from s) line fault
