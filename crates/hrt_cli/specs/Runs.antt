-- How a run ends, and what stands after it.
use Rattle.std.specs.Prelude.{◌≡◌, ◌⊎◌, ◌<◌, ◌≤◌, ◌^◌, ◌↔◌, ℕ, ◌==◌, ◌||◌, ◌&&◌, Bool, true, false, not, is_some, IsTrue, List, ◌++◌, length, codes, Option, Some, None, IfSome, Result, Ok, Err, ℤ, pos, ◌≤ℤ◌}
use Rattle.std.specs.List.Sorted.{IsStrictlyIncreasing}
use Rattle.hrt_base.specs.declared.port.Port.{Port}
use Rattle.hrt_base.specs.declared.port.Port.TheVariants.{Model, Proof, Report}
use Rattle.hrt_base.specs.declared.host.Begun.TheVariants.{Writing}
use Rattle.hrt_base.specs.Calls.{NoFault, Rose}
use Rattle.hrt_base.specs.World.{World, Content}
use Rattle.hrt_cli.specs.declared.status.Status.{Status}
use Rattle.hrt_cli.specs.declared.status.Status.TheVariants.{Misused}
use Rattle.hrt_cli.specs.declared.stop.Ended.{Ended}
use Rattle.hrt_cli.specs.declared.stop.Ended.TheVariants.{WriteFault}
use Rattle.hrt_cli.specs.Answers.{EndsEarly, IsReadOut}
use Rattle.hrt_cli.specs.Outputs.{SendsAll, is_output_name, outputs_of}
use Rattle.hrt_cli.specs.Plans.{AreTaken, is_determined, plan_of}
use Rattle.hrt_cli.specs.Outcomes.{Outcome, ComesTo}
use Rattle.hrt_cli.specs.Reports.{Finding, audit_report, bound_report, check_report, count_line, first_finding, line, match_lines, match_report, model_report, sizes_report}
use Rattle.hrt_cli.specs.Requests.{Request}
use Rattle.hrt_cli.specs.Statuses.{code_of, is_code_among, is_told_of, statuses_of}
use Rattle.rank_tables.specs.Instance.{Lists, pair_count}
use Rattle.rank_tables.specs.Stability.{Best, is_weakly_stable}
use Rattle.pb_rows.specs.Formula.{Formula}
use Rattle.proof_lines.specs.declared.line.Claim.{Claim}
use Rattle.proof_rules.specs.Sound.{IsTrueClaim}
use Rattle.promotion_heuristic.specs.Promotion.{promotion}
use Rattle.hrt_solve.specs.Gauged.{AreNumbersOf, IsMost, bound_claim, found_claim}
use Rattle.hrt_solve.specs.Searched.{IsSolveProof}
use Rattle.hrt_solve.specs.Writing.{IsProof}
use Rattle.hrt_inputs.specs.Taken.{IsInstance}
use Rattle.hrt_text.specs.Text.{rows}
use Rattle.hrt_reader.specs.PairsText.{pairs_of_rows, pairs_refusal}
use Rattle.hrt_reader.specs.Accepted.{Spells}
use Rattle.stability_audit.specs.Verdict.{verdict_of as audit_of}
use Rattle.opb_text.specs.Refusal.{Spells as SpellsFormula}
use Rattle.opb_text.specs.Spelling.{model_text}

-- the report of what the words and the files come to was sent whole
pub record IsReported (request : Option Request) (status : Status) (old new : World) : Type 0 where
  pub outcome : Outcome
  pub due : ComesTo (plan_of request) old.content.file outcome
  pub answered : status ≡ outcome.status
  pub report : new.content.sent Report ≡ outcome.report
  pub read_out : IsReadOut due.read new
  pub sends : SendsAll (outputs_of request outcome.texts) old.content new.content

-- The report was sent whole, no call failed, and no port is left begun for writing. The run is misused just where the words ask for nothing, and
-- the status is one that they can come to.
pub record Reported (told : Type 0) (request : Option Request) (status : Status) (old new : World) : Type 0 where
  pub understood : (status ≡ Misused) ↔ (request ≡ None)
  pub suits : IsTrue (is_told_of request (code_of status))
  pub no_fault : NoFault old new
  pub closed : (port : Port) → new.begun port ≡ Writing → ⊥
  pub reported : told → IsReported request status old new

-- a run was given up before its whole report; the words ask for something, unless a write failed
pub record GivenUp (told : Type 0) (request : Option Request) (why : Ended) (old new : World) : Type 0 where
  pub understood : request ≡ None → why ≡ WriteFault
  pub ends : EndsEarly told request why old new

-- how a run ends
abbrev pub EndsAs : (told : Type 0) → Option Request → Result Status Ended → World → World → Type 0
EndsAs told request (Ok status) old new = Reported told request status old new
EndsAs told request (Err why) old new = GivenUp told request why old new

-- ---- what a run promises, by the code that it answers

-- a code that comes with a report
abbrev pub has_report : ℕ → Bool
has_report n = not (n == 4 || n == 5 || n == 6)

-- a code with which a run of these words can end
abbrev pub is_code_of : Option Request → ℕ → Bool
is_code_of request n = n == 5 || ((n == 4 || n == 6) && is_some request) || is_told_of request n

-- the report was sent of what the words and the files come to, and the code is that of its status
pub record IsDecided (request : Option Request) (n : ℕ) (old new : World) : Type 0 where
  pub status : Status
  pub code : n ≡ code_of status
  pub reported : IsReported request status old new

-- For a command whose words and files determine what it comes to: the code and the report are those of whatever they come to,
-- unless a call of the host failed or memory was wanting.
abbrev pub IsDue : Option Request → ℕ → World → World → Type 0
IsDue request n old new =
    IsTrue (is_determined (plan_of request).job) → (due : Outcome) → ComesTo (plan_of request) old.content.file due → has_report n ≡ true
    → (n ≡ code_of due.status) × (new.content.sent Report ≡ due.report)

-- no count of faults has risen
pub record NoRise (old new : World) : Type 0 where
  pub unread : Rose old.read_faults new.read_faults → ⊥
  pub unwritten : Rose old.write_faults new.write_faults → ⊥

-- For such a command: without a rise of the counts of faults the code is that of whatever they come to, or memory was wanting.
abbrev pub IsComplete : Option Request → ℕ → World → World → Type 0
IsComplete request n old new =
    IsTrue (is_determined (plan_of request).job) → NoRise old new → (due : Outcome) → ComesTo (plan_of request) old.content.file due
    → (n ≡ code_of due.status) ⊎ (n ≡ 6)

-- Without a rise of the counts of faults a command whose inputs are taken ends with a status of its job, or memory was wanting.
abbrev pub Finishes : Option Request → ℕ → World → World → Type 0
Finishes request n old new =
    NoRise old new → AreTaken (plan_of request).inputs old.content.file → IsTrue (is_code_among (statuses_of (plan_of request).job) n) ⊎ (n ≡ 6)

-- Without a rise of the counts of faults a solve of an instance of n pairs, with a budget of 2^n or more, ends with 0, or memory was
-- wanting.
abbrev pub Settles : List ℕ → ℕ → ℕ → World → World → Type 0
Settles instance budget n old new =
    NoRise old new → (bytes : List ℕ) → old.content.file instance ≡ Some bytes → (lists : Lists) → IsInstance bytes lists → 2 ^ pair_count lists ≤ budget
    → (n ≡ 0) ⊎ (n ≡ 6)

-- The report says of the pairs that one file spells of the instance that the other spells whether they are a weakly stable
-- matching, and if they aren't the first reason.
pub record PrintsAudit (instance pairs : List ℕ) (is_stable : Bool) (old new : Content) : Type 0 where
  pub bytes : List ℕ
  pub file : old.file instance ≡ Some bytes
  pub lists : Lists
  pub spelled : Spells bytes lists
  pub pairs_bytes : List ℕ
  pub pairs_file : old.file pairs ≡ Some pairs_bytes
  pub taken : pairs_refusal lists (rows pairs_bytes) ≡ None
  pub listed : List ℕ
  pub listed_are : listed ≡ pairs_of_rows lists (rows pairs_bytes)
  pub stability : is_weakly_stable lists listed ≡ is_stable
  pub report : new.sent Report ≡ audit_report lists listed (audit_of lists listed)

-- the file that is named, and what was sent, is the model of the instance that the file spells, and the report counts it
pub record WritesModel (instance name : List ℕ) (old new : Content) : Type 0 where
  pub bytes : List ℕ
  pub file : old.file instance ≡ Some bytes
  pub lists : Lists
  pub spelled : Spells bytes lists
  pub sent : new.sent Model ≡ model_text lists
  pub written : new.file name ≡ Some (model_text lists)
  pub report : new.sent Report ≡ model_report lists

-- The report says of the instance that the file spells at most how many pairs a weakly stable matching has, and at least how
-- many one of them has, or `none` for either. What it says is so, whoever wrote the proof.
pub record PrintsSizes (instance : List ℕ) (old new : Content) : Type 0 where
  pub bytes : List ℕ
  pub file : old.file instance ≡ Some bytes
  pub lists : Lists
  pub spelled : Spells bytes lists
  pub bound : Option ℤ
  pub found : Option ℤ
  pub report : new.sent Report ≡ sizes_report bound found
  pub most : IfSome bound (λ k. (m : List ℕ) → IsTrue (is_weakly_stable lists m) → pos (length m) ≤ℤ k)
  pub some : IfSome found (λ k. (m : List ℕ) × IsTrue (is_weakly_stable lists m) × (k ≤ℤ pos (length m)))

-- The report says what a proof claims of the points of the formula that the file spells, and it is so, whoever wrote the proof.
pub record PrintsClaim (model : List ℕ) (old new : Content) : Type 0 where
  pub bytes : List ℕ
  pub file : old.file model ≡ Some bytes
  pub formula : Formula
  pub spelled : SpellsFormula bytes formula
  pub claim : Claim
  pub report : new.sent Report ≡ check_report claim
  pub is_true : IsTrueClaim formula claim

-- the files that are named are what was sent: the model of the lists, and a text of which this holds
pub record WritesBoth (lists : Lists) (Is : List ℕ → Type 0) (name proof : List ℕ) (new : Content) : Type 0 where
  pub model_sent : new.sent Model ≡ model_text lists
  pub model_file : new.file name ≡ Some (new.sent Model)
  pub proof_file : new.file proof ≡ Some (new.sent Proof)
  pub is_proof : Is (new.sent Proof)

-- the same, and the text is a valid proof of the model with this claim, which says of no row that it was learned
abbrev pub WritesProofOf : Lists → Claim → List ℕ → List ℕ → Content → Type 0
WritesProofOf lists claim name proof new = WritesBoth lists (λ text. IsProof lists text claim 0) name proof new

-- The report tells the numbers of the instance that the file spells. No weakly stable matching has more pairs than the ceiling,
-- and the written proof says so.
pub record PrintsBound (instance name proof : List ℕ) (old new : Content) : Type 0 where
  pub bytes : List ℕ
  pub file : old.file instance ≡ Some bytes
  pub lists : Lists
  pub spelled : Spells bytes lists
  pub deleted : ℕ
  pub top : ℕ
  pub numbers : AreNumbersOf lists deleted top
  pub most : IsMost lists top
  pub report : new.sent Report ≡ bound_report lists deleted top
  pub written : WritesProofOf lists (bound_claim top) name proof new

-- The report tells the numbers of the instance that the file spells and lists the promotion's pairs, which are weakly stable, and
-- ends with this line. No weakly stable matching has more pairs than the ceiling, and the written proof says this and that one
-- has as many as are listed.
pub record PrintsMatching (lists : Lists) (top : ℕ) (last : List ℕ) (instance name proof : List ℕ) (old new : Content) : Type 0 where
  pub bytes : List ℕ
  pub file : old.file instance ≡ Some bytes
  pub spelled : Spells bytes lists
  pub deleted : ℕ
  pub numbers : AreNumbersOf lists deleted top
  pub most : IsMost lists top
  pub stable : IsTrue (is_weakly_stable lists (promotion lists))
  pub report : new.sent Report ≡ match_lines lists (first_finding lists deleted top) ++ last
  pub written : WritesProofOf lists (found_claim top (length (promotion lists))) name proof new

-- the listed pairs are as many as the ceiling, so no weakly stable matching is larger
pub record PrintsMet (instance name proof : List ℕ) (old new : Content) : Type 0 where
  pub lists : Lists
  pub printed : PrintsMatching lists (length (promotion lists)) (line (codes "best")) instance name proof old new
  pub best : Best lists (promotion lists)

-- the listed pairs are fewer than the ceiling, and the last line tells the ceiling
pub record PrintsOpen (instance name proof : List ℕ) (old new : Content) : Type 0 where
  pub lists : Lists
  pub top : ℕ
  pub printed : PrintsMatching lists top (count_line (codes "at most") top) instance name proof old new
  pub fewer : length (promotion lists) < top

-- The report tells the numbers of the instance that the file spells, how many rows were learned, and a weakly stable matching by rising
-- numbers of pairs, and says whether it is best. Where the first matching is as large as the ceiling it is printed, and no row was learned.
-- The written proof is that of a solve with this budget: of the printed size, whether it is best, and of the ceiling.
pub record PrintsSolved (lists : Lists) (budget : ℕ) (found : Finding) (best : Bool) (instance name proof : List ℕ) (old new : Content) : Type 0 where
  pub bytes : List ℕ
  pub file : old.file instance ≡ Some bytes
  pub spelled : Spells bytes lists
  pub numbers : AreNumbersOf lists found.deleted found.top
  pub most : IsMost lists found.top
  pub first : found.first ≡ length (promotion lists)
  pub unsearched : found.first ≡ found.top → (found.pairs ≡ promotion lists) × (found.conflicts ≡ 0)
  pub stable : IsTrue (is_weakly_stable lists found.pairs)
  pub rising : IsStrictlyIncreasing found.pairs
  pub report : new.sent Report ≡ match_report lists found best
  pub written : WritesBoth lists (IsSolveProof lists budget found.top (length found.pairs) found.conflicts best) name proof new

-- no weakly stable matching is larger than the printed one
pub record PrintsBest (instance name proof : List ℕ) (budget : ℕ) (old new : Content) : Type 0 where
  pub lists : Lists
  pub found : Finding
  pub printed : PrintsSolved lists budget found true instance name proof old new
  pub best : Best lists found.pairs

-- the printed matching is shorter than the ceiling, and as many rows were learned as the budget allows
pub record PrintsSpent (instance name proof : List ℕ) (budget : ℕ) (old new : Content) : Type 0 where
  pub lists : Lists
  pub found : Finding
  pub printed : PrintsSolved lists budget found false instance name proof old new
  pub fewer : length found.pairs < found.top
  pub spent : found.conflicts ≡ budget

-- a code after which no file has changed
abbrev pub keeps_files : ℕ → Bool
keeps_files n = n == 2 || n == 3 || n == 4 || n == 7 || n == 8 || n == 9 || n == 12

-- every file is as it was, but for those that the words name as outputs
abbrev pub KeepsOtherFiles : Option Request → Content → Content → Type 0
KeepsOtherFiles request old new = (name : List ℕ) → is_output_name request name ≡ false → new.file name ≡ old.file name

-- every file is as it was
abbrev pub KeepsFiles : Content → Content → Type 0
KeepsFiles old new = (name : List ℕ) → new.file name ≡ old.file name
