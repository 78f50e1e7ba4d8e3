-- What a command answers, and what stands when it does.
use Rattle.std.specs.Prelude.{◌≡◌, ◌⊎◌, ℕ, IsTrue, List, [], take, Option, Some, None, IsSomeAnd, Result, Err, IfOk, IfErr}
use Rattle.hrt_base.specs.declared.port.Port.{Port}
use Rattle.hrt_base.specs.declared.port.Port.TheVariants.{Instance, Pairs, Model, Proof, Report, ModelTwo, ProofTwo}
use Rattle.hrt_base.specs.declared.host.Begun.TheVariants.{Reading, Writing}
use Rattle.hrt_base.specs.World.{World, Content, port_no}
use Rattle.hrt_base.specs.Calls.{NoFault, Rose}
use Rattle.hrt_reader.specs.Kinds.{number}
use Rattle.hrt_reader.specs.PairsAnswer.{pairs_number}
use Rattle.hrt_inputs.specs.declared.limit.Limit.TheVariants.{InstanceBytes, PairsBytes, ModelBytes, ProofBytes}
use Rattle.hrt_inputs.specs.declared.stop.Stop.{Stop}
use Rattle.hrt_inputs.specs.declared.stop.Stop.TheVariants.{Refused, Exceeded, PairsRefused, ModelRefused, ProofRefused, ReadFault, NoMemory}
use Rattle.hrt_inputs.specs.Rejections.{Rejection, refused, exceeded, pairs_refused, model_refused}
use Rattle.hrt_cli.specs.declared.answer.Answer.{Answer}
use Rattle.hrt_cli.specs.declared.stop.Ended.{Ended}
use Rattle.hrt_cli.specs.declared.stop.Ended.TheVariants as ended
use Rattle.hrt_cli.specs.Outcomes.{HasTexts, Outcome, ComesTo, rejected}
use Rattle.hrt_cli.specs.Outputs.{SendsAll, SendsFronts, outputs_of}
use Rattle.hrt_cli.specs.Plans.{AreSome, AreTaken, Files, Value, plan_of}
use Rattle.hrt_cli.specs.Ports.{KeepsOtherPorts, ReadsInputs, WritesOutputs}
use Rattle.hrt_cli.specs.Reports.{proof_rejection}
use Rattle.hrt_cli.specs.Requests.{Request}
use Rattle.hrt_cli.specs.Statuses.{code_of, is_told_of}

-- ---- answers

-- the status and the report that are due
pub record IsAnswer (due : Outcome) (answer : Answer) : Type 0 where
  pub status : answer.status ≡ due.status
  pub report : answer.report ≡ due.report

-- what is told of a file for a stop, if anything is
abbrev pub rejection_of : Stop → Option Rejection
rejection_of (Refused kind line) = Some (refused (record { line = line; kind = number kind }))
rejection_of (Exceeded limit) = Some (exceeded limit)
rejection_of (PairsRefused kind line) = Some (pairs_refused (record { line = line; kind = pairs_number kind }))
rejection_of (ModelRefused kind line) = Some (model_refused kind line)
rejection_of (ProofRefused refusal) = proof_rejection refusal
rejection_of ReadFault = None
rejection_of NoMemory = None

-- an answer tells why there was a stop
abbrev pub Explains : Stop → Answer → Type 0
Explains stop answer = IsSomeAnd (rejection_of stop) (λ rejection. IsAnswer (rejected rejection) answer)

-- a run can end so for this stop: by a read fault only where that was the stop, for want of memory after any, and never by a
-- write fault
abbrev pub EndsFor : Stop → Ended → Type 0
EndsFor stop ended.ReadFault = stop ≡ ReadFault
EndsFor stop ended.WriteFault = ⊥
EndsFor stop ended.NoMemory = Unit {0}

-- ---- what was read

-- what stopped the reading is that the length limit of what is read on this port was passed
abbrev pub PassedAt : Result (List Value) Rejection → Port → Type 0
PassedAt read Instance = read ≡ Err (exceeded InstanceBytes)
PassedAt read Pairs = read ≡ Err (exceeded PairsBytes)
PassedAt read Model = read ≡ Err (exceeded ModelBytes)
PassedAt read Proof = read ≡ Err (exceeded ProofBytes)
PassedAt read Report = ⊥
PassedAt read ModelTwo = ⊥
PassedAt read ProofTwo = ⊥

-- each port that was begun for reading was read to its end, but for the one whose length limit was passed
abbrev pub IsReadOut : Result (List Value) Rejection → World → Type 0
IsReadOut read w = (port : Port) → w.begun port ≡ Reading → (w.content.rest port ≡ []) ⊎ PassedAt read port

-- ---- an answer

-- the words and the files come to this answer, and each output that is due was written and sealed
pub record IsWorkDone (request : Option Request) (answer : Answer) (old new : World) : Type 0 where
  pub outcome : Outcome
  pub due : ComesTo (plan_of request) old.content.file outcome
  pub answered : IsAnswer outcome answer
  pub read_out : IsReadOut due.read new
  pub sends : SendsAll (outputs_of request outcome.texts) old.content new.content
  pub silent : new.content.sent Report ≡ []
  pub unnamed : new.content.name Report ≡ []

-- a command came to this answer with no call failed, and the report alone is left to write
pub record IsWorked (told : Type 0) (request : Option Request) (answer : Answer) (old new : World) : Type 0 where
  pub no_fault : NoFault old new
  pub open_report : new.begun Report ≡ Writing
  pub others : (p : Port) → new.begun p ≡ Writing → port_no p ≡ port_no Report
  pub suits : IsTrue (is_told_of request (code_of answer.status))
  pub due : told → IsWorkDone request answer old new

-- ---- no answer

-- nothing was sent, and the files are as they were
pub record SendsNothing (old new : Content) : Type 0 where
  pub sent : (port : Port) → new.sent port ≡ []
  pub files : (name : List ℕ) → new.file name ≡ old.file name

-- fronts were sent of outputs that the command writes
pub record SendsDue (request : Option Request) (old new : Content) : Type 0 where
  pub texts : List (List ℕ)
  pub due : HasTexts (plan_of request) old.file texts
  pub sends : SendsFronts (outputs_of request texts) old new

-- nothing was sent, or fronts of the outputs, and no byte of the report
pub record LeavesFronts (request : Option Request) (old new : Content) : Type 0 where
  pub silent : new.sent Report ≡ []
  pub sends : SendsNothing old new ⊎ SendsDue request old new

-- the command has outputs, and its inputs are taken
abbrev pub HasOutputs : Option Request → Files → Type 0
HasOutputs request files = AreSome (plan_of request).outputs × AreTaken (plan_of request).inputs files

-- the outputs were cut short: each input was read to its end, and no byte of the report was sent
pub record IsCutBefore (request : Option Request) (old new : World) : Type 0 where
  pub has_outputs : HasOutputs request old.content.file
  pub read_out : (port : Port) → new.begun port ≡ Reading → new.content.rest port ≡ []
  pub leaves : LeavesFronts request old.content new.content

-- a front was sent of the report of what the words and the files come to, and before it the outputs whole
pub record IsCutAtReport (request : Option Request) (old new : World) : Type 0 where
  pub outcome : Outcome
  pub due : ComesTo (plan_of request) old.content.file outcome
  pub count : ℕ
  pub front : new.content.sent Report ≡ take count outcome.report
  pub read_out : IsReadOut due.read new
  pub sends : SendsAll (outputs_of request outcome.texts) old.content new.content

-- the run was cut short at its outputs or at its report
abbrev pub IsCutShort : Option Request → World → World → Type 0
IsCutShort request old new = IsCutBefore request old new ⊎ IsCutAtReport request old new

-- a write failed, and the run was cut short at its outputs or at its report
pub record CutShort (told : Type 0) (request : Option Request) (old new : World) : Type 0 where
  pub rose : Rose old.write_faults new.write_faults
  pub cut_short : told → IsCutShort request old new

-- a read failed, no output is begun, nothing was sent, and the files are as they were
pub record ReadFailed (told : Type 0) (old new : World) : Type 0 where
  pub rose : Rose old.read_faults new.read_faults
  pub writers : (port : Port) → new.begun port ≡ Writing → port ≡ Report
  pub nothing : told → SendsNothing old.content new.content

-- a command was given up before its whole report
abbrev pub EndsEarly : (told : Type 0) → Option Request → Ended → World → World → Type 0
EndsEarly told request ended.ReadFault old new = ReadFailed told old new
EndsEarly told request ended.WriteFault old new = CutShort told request old new
EndsEarly told request ended.NoMemory old new = told → LeavesFronts request old.content new.content

-- ---- a command

-- A command was carried out up to its report, or given up. It begins no ports but those of its plan, and leaves all others as
-- they were.
pub record Serves (told : Type 0) (request : Option Request) (result : Result Answer Ended) (old new : World) : Type 0 where
  pub worked : IfOk result (λ answer. IsWorked told request answer old new)
  pub ended : IfErr result (λ why. EndsEarly told request why old new)
  pub inputs : ReadsInputs told request old new
  pub outputs : WritesOutputs told request old new
  pub others : KeepsOtherPorts told request old new
