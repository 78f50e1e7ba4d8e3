-- What a refusal of the code says of the rules' answer, and of the line.
use Rattle.std.proofs.Common.{◌≡◌, inl, ap}
use Rattle.std.specs.Prelude.{Option, Some, None, Result, Ok, Err, IfSome}
use Rattle.pb_rows.specs.Formula.{Formula}
use Rattle.proof_lines.specs.declared.line.Line.{Line}
use Rattle.proof_rules.specs.Refusals.{Refusal, and_then}
use Rattle.proof_rules.specs.States.{State}
use Rattle.proof_rules.specs.Valid.{Place, Proving, next_place}
use Rattle.proof_rules.specs.Refused.{Refuses}
use Rattle.proof_checker.specs.declared.fault.Fault.{Fault}
use Rattle.proof_checker.specs.Faults.{Answers, Halts, reason_of}

pub if_reason : (o : Option Refusal) (P Q : Refusal → Type 0) → ((e : Refusal) → P e → Q e) → IfSome o P → IfSome o Q
if_reason None P Q f h = tt
if_reason (Some e) P Q f h = f e h

-- an answer for the same reason
pub answers-as : {A B : Type 0} (one : Result A Refusal) (other : Result B Refusal) (fault : Fault) → ((e : Refusal) → one ≡ Err e → other ≡ Err e) → Answers one fault → Answers other fault
answers-as one other fault f h = if_reason (reason_of fault) (λ e. one ≡ Err e) (λ e. other ≡ Err e) f h

-- a line is refused where the rules give no place
pub halts-as : {A : Type 0} (f : Formula) (here : Place) (line : Line) (answer : Result A Refusal) (fault : Fault) → ((e : Refusal) → answer ≡ Err e → next_place f here line ≡ Err e) → Answers answer fault → Halts f here line fault
halts-as f here line answer fault g h = if_reason (reason_of fault) (λ e. answer ≡ Err e) (Refuses f here line) (λ e k. inl (g e k)) h

abbrev to_place : Result State Refusal → Result Place Refusal
to_place r = and_then r (λ t. Ok (Proving t))

-- a step that the rules refuse
pub step-stops : (r : Result State Refusal) (e : Refusal) → r ≡ Err e → to_place r ≡ Err e
step-stops r e h = ap to_place h

pub step-leads : (r : Result State Refusal) (t : State) → r ≡ Ok t → to_place r ≡ Ok (Proving t)
step-leads r t h = ap to_place h

pub then-stops : {A B : Type 0} (r : Result A Refusal) (next : A → Result B Refusal) (e : Refusal) → r ≡ Err e → and_then r next ≡ Err e
then-stops r next e h = ap (λ (s : Result _ Refusal). and_then s next) h

pub then-leads : {A B : Type 0} (r : Result A Refusal) (next : A → Result B Refusal) (x : A) → r ≡ Ok x → and_then r next ≡ next x
then-leads r next x h = ap (λ (s : Result _ Refusal). and_then s next) h
