-- Why a line is no step, in the code and in the rules.
use Rattle.std.specs.Prelude.{◌≡◌, ℕ, Option, Some, None, Result, Err, IfSome}
use Rattle.pb_rows.specs.Formula.{Formula}
use Rattle.proof_lines.specs.declared.line.Line.{Line}
use Rattle.proof_steps.specs.declared.refusal.StepRefusal.{StepRefusal}
use Rattle.proof_steps.specs.declared.refusal.StepRefusal.TheVariants as step
use Rattle.proof_rules.specs.Refusals as why
use Rattle.proof_rules.specs.Refusals.{Refusal}
use Rattle.proof_rules.specs.Valid.{Place}
use Rattle.proof_rules.specs.Refused.{Refuses}
use Rattle.proof_checker.specs.declared.refusal.ProofRefusal.{ProofRefusal}
use Rattle.proof_checker.specs.declared.refusal.ProofRefusal.TheVariants as refusal
use Rattle.proof_checker.specs.declared.fault.Fault.{Fault}
use Rattle.proof_checker.specs.declared.fault.Fault.TheVariants.{Syntax, TooBig, BadId, BadVariable, StackShape, NotFull, NotASolution, NotImplied, BoundNotShown, WrongCount, NoMemory}

-- the rules' reason; want of memory is none of theirs
abbrev pub reason_of : Fault → Option Refusal
reason_of Syntax = Some why.Syntax
reason_of TooBig = Some why.TooBig
reason_of (BadId id) = Some (why.BadId id)
reason_of (BadVariable var) = Some (why.BadVariable var)
reason_of StackShape = Some why.StackShape
reason_of NotFull = Some why.NotFull
reason_of (NotASolution row) = Some (why.NotASolution row)
reason_of NotImplied = Some why.NotImplied
reason_of BoundNotShown = Some why.BoundNotShown
reason_of WrongCount = Some why.WrongCount
reason_of NoMemory = None

-- the rules answer that reason
abbrev pub Answers : {A : Type 0} → Result A Refusal → Fault → Type 0
Answers answer fault = IfSome (reason_of fault) (λ reason. answer ≡ Err reason)

-- unless memory was wanting, the fault is `NotFull`, and this is so
abbrev pub IsNotFullWhere : Type 0 → Fault → Type 0
IsNotFullWhere so fault = IfSome (reason_of fault) (λ reason. (reason ≡ why.NotFull) × so)

-- the line is refused for that reason
abbrev pub Halts : Formula → Place → Line → Fault → Type 0
Halts f here line fault = IfSome (reason_of fault) (Refuses f here line)

-- the fault for the refusal of a `pol` line's steps
abbrev pub fault_of : StepRefusal → Fault
fault_of (step.BadId id) = BadId id
fault_of (step.BadVariable var) = BadVariable var
fault_of step.StackShape = StackShape
fault_of step.TooBig = TooBig
fault_of step.NoMemory = NoMemory

-- the checker's refusal for a fault, with the line's number
abbrev pub at_line : ℕ → Fault → ProofRefusal
at_line line Syntax = refusal.Syntax line
at_line line TooBig = refusal.TooBig line
at_line line (BadId id) = refusal.BadId line id
at_line line (BadVariable var) = refusal.BadVariable line var
at_line line StackShape = refusal.StackShape line
at_line line NotFull = refusal.NotFull line
at_line line (NotASolution row) = refusal.NotASolution line row
at_line line NotImplied = refusal.NotImplied line
at_line line BoundNotShown = refusal.BoundNotShown line
at_line line WrongCount = refusal.WrongCount line
at_line line NoMemory = refusal.NoMemory
