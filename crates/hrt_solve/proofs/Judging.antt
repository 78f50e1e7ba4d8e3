-- What a checker's answer says of the proof that was read.
use Rattle.std.proofs.Common.{◌≡◌, ℕ, List, [], Result, Ok, Err, IfErr, IfOk, refl, sym, ap, ◌∙◌, subst}
use Rattle.std.specs.Result.{IsErrAnd}
use Rattle.hrt_base.specs.declared.port.Port.TheVariants.{Proof}
use Rattle.hrt_base.specs.World.{World}
use Rattle.hrt_base.proofs.Pieces.{taken_so_far}
use Rattle.pb_rows.specs.Formula.{Formula}
use Rattle.rank_tables.specs.Instance.{Lists}
use Rattle.stability_model.specs.Model.{formula}
use Rattle.proof_lines.specs.declared.line.Claim.{Claim}
use Rattle.proof_rules.specs.Matchings.{SaysOfMatchings}
use Rattle.proof_rules.specs.Texts.{Accepted, HasVerdict, IsValidText, Verdict}
use Rattle.proof_rules.proofs.Matchings.{verified_bounds}
use Rattle.proof_checker.specs.declared.refusal.ProofRefusal.{ProofRefusal}
use Rattle.proof_checker.specs.declared.refusal.ProofRefusal.TheVariants.{Syntax, BadId, BadVariable, StackShape, TooBig, NotFull, NotImplied, NotASolution, BoundNotShown, WrongCount, Truncated, NoMemory}
use Rattle.proof_checker.specs.declared.phase.Phase.TheVariants.{Reading}
use Rattle.proof_checker.specs.Answers.{Judges}
use Rattle.proof_checker.specs.Standing.{Checked, StandsFor}
use Rattle.hrt_solve.specs.declared.refusal.CheckRefusal.{CheckRefusal}
use Rattle.hrt_solve.specs.Judged.{IsFed, IsJudged, IsReadOut, StopsCheck, check_refusal}

judged_as : (told : Type 0) (f : Formula) (bytes : List ℕ) (verdict : Verdict) (old new : World) → IsReadOut told bytes old new → HasVerdict f bytes verdict → IsJudged told f verdict old new
judged_as told f bytes verdict old new read has = record { bytes = bytes; read = read; judged = has }

-- a refusal of the checker is the proof's verdict
pub stopped : (told : Type 0) (f : Formula) (bytes : List ℕ) (refusal : ProofRefusal) (old new : World) → IsReadOut told bytes old new → Judges f bytes (Err refusal)
    → StopsCheck told f (check_refusal refusal) old new
stopped told f bytes (Syntax n) old new read judges = record { verdict = _; is = refl; judged = judged_as told f bytes _ old new read judges.holds }
stopped told f bytes (BadId n k) old new read judges = record { verdict = _; is = refl; judged = judged_as told f bytes _ old new read judges.holds }
stopped told f bytes (BadVariable n k) old new read judges = record { verdict = _; is = refl; judged = judged_as told f bytes _ old new read judges.holds }
stopped told f bytes (StackShape n) old new read judges = record { verdict = _; is = refl; judged = judged_as told f bytes _ old new read judges.holds }
stopped told f bytes (TooBig n) old new read judges = record { verdict = _; is = refl; judged = judged_as told f bytes _ old new read judges.holds }
stopped told f bytes (NotFull n) old new read judges = record { verdict = _; is = refl; judged = judged_as told f bytes _ old new read judges.holds }
stopped told f bytes (NotImplied n) old new read judges = record { verdict = _; is = refl; judged = judged_as told f bytes _ old new read judges.holds }
stopped told f bytes (NotASolution n k) old new read judges = record { verdict = _; is = refl; judged = judged_as told f bytes _ old new read judges.holds }
stopped told f bytes (BoundNotShown n) old new read judges = record { verdict = _; is = refl; judged = judged_as told f bytes _ old new read judges.holds }
stopped told f bytes (WrongCount n) old new read judges = record { verdict = _; is = refl; judged = judged_as told f bytes _ old new read judges.holds }
stopped told f bytes Truncated old new read judges = record { verdict = _; is = refl; judged = judged_as told f bytes _ old new read judges.holds }
stopped told f bytes NoMemory old new read judges = record { part = (bytes, read.short, taken_so_far told Proof bytes old new read.taken) }

-- the checker judges the bytes that it was fed, over its formula
pub judges : (told : Type 0) (f : Formula) (before now : Checked) (answer : Result Claim ProofRefusal) (old new : World) → before ≡ record { formula = f; bytes = []; phase = Reading }
    → IsFed told before now old new → ((text : List ℕ) → StandsFor text now → Judges now.formula text answer) → Judges f now.bytes answer
judges told f before now answer old new is fed by_all =
    subst (λ (g : Formula). Judges g now.bytes answer) (ap (λ (c : Checked). c.formula) fed.fed ∙ ap (λ (c : Checked). c.formula) is) (by_all now.bytes fed.stands)

-- which is what the check hands on
pub handed_on : (told : Type 0) (f : Formula) (r : Result Claim CheckRefusal) (refusal : CheckRefusal) (old new : World) → IsErrAnd r (λ e. e ≡ refusal) → StopsCheck told f refusal old new
    → IfErr r (λ e. StopsCheck told f e old new)
handed_on told f (Ok claim) refusal old new is stops = tt
handed_on told f (Err e) refusal old new is stops = subst (λ (x : CheckRefusal). StopsCheck told f x old new) (sym is) stops

-- of an instance's model
pub says : (told : Type 0) (f : Formula) (lists : Lists) (r : Result Claim CheckRefusal) (old new : World) → f ≡ formula lists → IfOk r (λ claim. IsJudged told f (Accepted claim) old new)
    → IfOk r (SaysOfMatchings lists)
says told f lists (Ok claim) old new is judged = verified_bounds lists judged.bytes claim (subst (λ (g : Formula). IsValidText g judged.bytes claim) is judged.judged)
says told f lists (Err refusal) old new is judged = tt
