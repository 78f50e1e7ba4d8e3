-- The statuses with which a run ends, and their codes.
use Rattle.std.specs.Prelude.{ℕ, ◌==◌, ◌||◌, Bool, if◌then◌else◌, is_none, List, [], ◌∷◌, Option, Result, Ok, Err}
use Rattle.std.specs.List.{list_any}
use Rattle.stability_audit.specs.declared.verdict.Verdict.{Verdict as Audit}
use Rattle.stability_audit.specs.declared.verdict.Verdict.TheVariants.{Stable, ResidentTwice, OverCapacity, Blocked}
use Rattle.hrt_inputs.specs.Rejections.{Rejection, refused, exceeded, pairs_refused, model_refused, proof_refused, truncated}
use Rattle.hrt_cli.specs.declared.status.Status.{Status}
use Rattle.hrt_cli.specs.declared.status.Status.TheVariants.{Done, Misused, InstanceRefused, LimitExceeded, ProofRefused, AuditNo, Bounded, PairsRefused}
use Rattle.hrt_cli.specs.declared.stop.Ended.{Ended}
use Rattle.hrt_cli.specs.declared.stop.Ended.TheVariants as ended
use Rattle.hrt_cli.specs.Plans.{Job, Kind, plan_of}
use Rattle.hrt_cli.specs.Plans as plan
use Rattle.hrt_cli.specs.Requests.{Request}

-- ---- codes

-- the code for a status
abbrev pub code_of : Status → ℕ
code_of Done = 0
code_of Misused = 2
code_of InstanceRefused = 3
code_of LimitExceeded = 7
code_of ProofRefused = 8
code_of AuditNo = 9
code_of Bounded = 10
code_of PairsRefused = 12

-- the code for a run that ended without its report
abbrev pub early_code_of : Ended → ℕ
early_code_of ended.ReadFault = 4
early_code_of ended.WriteFault = 5
early_code_of ended.NoMemory = 6

-- the code that a run answers
abbrev pub exit_code : Result Status Ended → ℕ
exit_code (Ok status) = code_of status
exit_code (Err why) = early_code_of why

-- the code is that of one of the statuses
abbrev pub is_code_among : List Status → ℕ → Bool
is_code_among statuses n = list_any (λ s. code_of s == n) statuses

-- ---- which statuses there are

-- the status that tells why a file isn't taken
abbrev pub rejection_status : Rejection → Status
rejection_status (refused r) = InstanceRefused
rejection_status (exceeded limit) = LimitExceeded
rejection_status (pairs_refused r) = PairsRefused
rejection_status (model_refused kind line) = ProofRefused
rejection_status (proof_refused r) = ProofRefused
rejection_status truncated = ProofRefused

-- the statuses that tell why a file of a kind isn't taken
abbrev pub refusals_of : Kind → List Status
refusals_of plan.instance = InstanceRefused ∷ LimitExceeded ∷ []
refusals_of plan.pairs = PairsRefused ∷ LimitExceeded ∷ []
refusals_of plan.model = ProofRefused ∷ LimitExceeded ∷ []
refusals_of plan.proof = ProofRefused ∷ LimitExceeded ∷ []

-- the statuses to which a job comes once its inputs are taken
abbrev pub statuses_of : Job → List Status
statuses_of plan.explain = Misused ∷ []
statuses_of (plan.solve budget) = Done ∷ Bounded ∷ []
statuses_of plan.audit = Done ∷ AuditNo ∷ []
statuses_of plan.model = Done ∷ []
statuses_of plan.verify = Done ∷ []
statuses_of plan.check = Done ∷ []
statuses_of plan.bound = Done ∷ []
statuses_of plan.quick = Done ∷ Bounded ∷ []

-- a code of what these words can come to, whatever the files are
abbrev pub is_told_of : Option Request → ℕ → Bool
is_told_of request n =
    if n == 2 then is_none request
    else is_code_among (statuses_of (plan_of request).job) n || list_any (λ i. is_code_among (refusals_of i.kind) n) (plan_of request).inputs

-- the status for what an audit says
abbrev pub audit_status : Audit → Status
audit_status Stable = Done
audit_status (ResidentTwice r) = AuditNo
audit_status (OverCapacity h) = AuditNo
audit_status (Blocked p) = AuditNo
