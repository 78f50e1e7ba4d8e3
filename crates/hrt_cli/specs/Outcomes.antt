-- What a run comes to, as far as the words and the files decide it.
use Rattle.std.specs.Prelude.{◌≡◌, ◌==◌, ℕ, Bool, if◌then◌else◌, List, [], ◌∷◌, length, codes, Option, Some, None, IsSomeAnd, Result, Ok, Err}
use Rattle.rank_tables.specs.Instance.{Lists}
use Rattle.rank_tables.specs.Stability.{is_weakly_stable}
use Rattle.stability_audit.specs.Verdict.{verdict_of as audit_of}
use Rattle.opb_text.specs.Spelling.{model_text}
use Rattle.proof_lines.specs.declared.line.Claim.{Claim}
use Rattle.promotion_heuristic.specs.Promotion.{promotion}
use Rattle.hrt_solve.specs.Gauged.{AreNumbersOf, bound_claim, found_claim}
use Rattle.hrt_solve.specs.declared.ends.SolveEnd.{SolveEnd}
use Rattle.hrt_solve.specs.Searched.{IsSolveEnd, IsSolveProof, IsSolveText}
use Rattle.hrt_solve.specs.Writing.{IsBoundText, IsProof, IsQuickText}
use Rattle.hrt_inputs.specs.Rejections.{Rejection}
use Rattle.hrt_cli.specs.declared.status.Status.{Status}
use Rattle.hrt_cli.specs.declared.status.Status.TheVariants.{Done, Misused, AuditNo, Bounded}
use Rattle.hrt_cli.specs.Plans as plan
use Rattle.hrt_cli.specs.Plans.{Files, Job, Plan, ReadsTo, Value, lists_of}
use Rattle.hrt_cli.specs.Reports.{Finding, audit_report, bound_report, check_report, finding_of, first_finding, line, match_report, model_report, rejection_report, verify_report}
use Rattle.hrt_cli.specs.Statuses.{rejection_status}

-- What is due: a status, a report, and the texts of the first outputs. An output without a text isn't written.
pub record Outcome : Type 0 where
  pub status : Status
  pub report : List ℕ
  pub texts : List (List ℕ)

-- this status, this report and these texts
abbrev pub outcome : Status → List ℕ → List (List ℕ) → Outcome
outcome status report texts = record { status = status; report = report; texts = texts }

-- ---- what is told of words and files

-- the words ask for nothing
abbrev pub misused : Outcome
misused = outcome Misused (line (codes "words not understood")) []

-- a file isn't taken
abbrev pub rejected : Rejection → Outcome
rejected rejection = outcome (rejection_status rejection) (rejection_report rejection) []

-- ---- what is told of a job

-- whether these pairs are weakly stable is due
abbrev pub audited : Lists → List ℕ → Outcome
audited lists pairs = outcome (if is_weakly_stable lists pairs then Done else AuditNo) (audit_report lists pairs (audit_of lists pairs)) []

-- the model is due
abbrev pub modeled : Lists → Outcome
modeled lists = outcome Done (model_report lists) (model_text lists ∷ [])

-- the proof of the instance's model is valid, with this claim
abbrev pub verified : Claim → Outcome
verified claim = outcome Done (verify_report claim) []

-- the proof of the model is valid, with this claim
abbrev pub checked : Claim → Outcome
checked claim = outcome Done (check_report claim) []

-- so many pairs are deleted, this is the ceiling, and this proof of it is due
abbrev pub bounded : Lists → ℕ → ℕ → List ℕ → Outcome
bounded lists deleted top text = outcome Done (bound_report lists deleted top) (model_text lists ∷ text ∷ [])

-- what was found is due, whether it is best, and this proof of it
abbrev pub solved : Lists → Finding → Bool → List ℕ → Outcome
solved lists found best text = outcome (if best then Done else Bounded) (match_report lists found best) (model_text lists ∷ text ∷ [])

-- the same of the first matching, with these numbers of the instance
abbrev pub matched : Lists → ℕ → ℕ → List ℕ → Outcome
matched lists deleted top text = solved lists (first_finding lists deleted top) (length (promotion lists) == top) text

-- what is due are the instance's numbers and a proof of what is claimed with its ceiling, which says of no row that it was learned
pub record ProofDue (claim : ℕ → Claim) (done : ℕ → ℕ → List ℕ → Outcome) (lists : Lists) (due : Outcome) : Type 0 where
  pub deleted : ℕ
  pub top : ℕ
  pub text : List ℕ
  pub numbers : AreNumbersOf lists deleted top
  pub is_proof : IsProof lists text (claim top) 0
  pub is : due ≡ done deleted top text

-- the claim that no weakly stable matching is larger than the ceiling, and that one is as large as the first matching
abbrev pub first_claim : Lists → ℕ → Claim
first_claim lists top = found_claim top (length (promotion lists))

-- the text is the proof of a solve with this budget that came to this end
abbrev pub IsProofOf : Lists → ℕ → SolveEnd → List ℕ → Type 0
IsProofOf lists budget end text = IsSolveProof lists budget end.ceiling (length end.pairs.items) end.conflicts end.best text

-- what is due is what a solve with this budget found, and its proof
pub record SolveDue (lists : Lists) (budget : ℕ) (due : Outcome) : Type 0 where
  pub end : SolveEnd
  pub said : IsSolveEnd lists budget end
  pub text : List ℕ
  pub is_proof : IsProofOf lists budget end text
  pub is : due ≡ solved lists (finding_of end) end.best text

-- ---- what a plan comes to

-- pairs of an instance
pub record Listed : Type 0 where
  pub lists : Lists
  pub pairs : List ℕ

-- the pairs that were read, and their instance
abbrev pub pairs_of : List Value → Option Listed
pairs_of (plan.lists l ∷ plan.listed pairs ∷ []) = Some (record { lists = l; pairs = pairs })
pairs_of values = None

-- what the proof that was read claims
abbrev pub claim_of : List Value → Option Claim
claim_of (model ∷ plan.claim c ∷ []) = Some c
claim_of values = None

-- what a job comes to with what was read
abbrev pub Comes : Job → List Value → Outcome → Type 0
Comes plan.explain values due = due ≡ misused
Comes (plan.solve budget) values due = IsSomeAnd (lists_of values) (λ l. SolveDue l budget due)
Comes plan.audit values due = IsSomeAnd (pairs_of values) (λ read. due ≡ audited read.lists read.pairs)
Comes plan.model values due = IsSomeAnd (lists_of values) (λ l. due ≡ modeled l)
Comes plan.verify values due = IsSomeAnd (claim_of values) (λ c. due ≡ verified c)
Comes plan.check values due = IsSomeAnd (claim_of values) (λ c. due ≡ checked c)
Comes plan.bound values due = IsSomeAnd (lists_of values) (λ l. ProofDue bound_claim (bounded l) l due)
Comes plan.quick values due = IsSomeAnd (lists_of values) (λ l. ProofDue (first_claim l) (matched l) l due)

-- the same, unless a file isn't taken
abbrev pub OnRead : Job → Result (List Value) Rejection → Outcome → Type 0
OnRead job (Err rejection) due = due ≡ rejected rejection
OnRead job (Ok values) due = Comes job values due

-- what a plan and the files come to: nothing where a file that is read is absent
pub record ComesTo (command : Plan) (files : Files) (due : Outcome) : Type 0 where
  pub read : Result (List Value) Rejection
  pub reads : ReadsTo command.inputs files [] read
  pub comes : OnRead command.job read due

-- ---- what is there of it where a run is cut short

-- the texts are the model and one of which this holds
pub record AreModelAnd (Is : List ℕ → Type 0) (lists : Lists) (texts : List (List ℕ)) : Type 0 where
  pub text : List ℕ
  pub is : Is text
  pub are : texts ≡ model_text lists ∷ text ∷ []

-- such texts a job writes with what was read
abbrev pub AreTexts : Job → List Value → List (List ℕ) → Type 0
AreTexts plan.explain values texts = texts ≡ []
AreTexts (plan.solve budget) values texts = IsSomeAnd (lists_of values) (λ l. AreModelAnd (IsSolveText l budget) l texts)
AreTexts plan.audit values texts = texts ≡ []
AreTexts plan.model values texts = IsSomeAnd (lists_of values) (λ l. texts ≡ model_text l ∷ [])
AreTexts plan.verify values texts = texts ≡ []
AreTexts plan.check values texts = texts ≡ []
AreTexts plan.bound values texts = IsSomeAnd (lists_of values) (λ l. AreModelAnd (IsBoundText l) l texts)
AreTexts plan.quick values texts = IsSomeAnd (lists_of values) (λ l. AreModelAnd (IsQuickText l) l texts)

-- such texts a plan writes with these files
pub record HasTexts (command : Plan) (files : Files) (texts : List (List ℕ)) : Type 0 where
  pub values : List Value
  pub reads : ReadsTo command.inputs files [] (Ok values)
  pub are : AreTexts command.job values texts
