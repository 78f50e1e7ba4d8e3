-- What the reading of a proof comes to.
use Rattle.std.specs.Prelude.{◌≡◌, ◌≤◌, ℕ, List, [], length, Some}
use Rattle.hrt_base.specs.declared.port.Port.TheVariants.{Proof}
use Rattle.hrt_base.specs.declared.host.Begun.TheVariants.{Reading}
use Rattle.hrt_base.specs.World.{World, put, with_rest}
use Rattle.pb_rows.specs.Formula.{Formula}
use Rattle.proof_rules.specs.Texts.{HasVerdict, Verdict}
use Rattle.proof_checker.specs.declared.refusal.ProofRefusal.{ProofRefusal}
use Rattle.proof_checker.specs.Answers.{refusal_verdict}
use Rattle.hrt_solve.specs.declared.refusal.CheckRefusal.{CheckRefusal}
use Rattle.hrt_solve.specs.declared.refusal.CheckRefusal.TheVariants as check
use Rattle.hrt_inputs.specs.declared.limit.Limit.{Limit}
use Rattle.hrt_inputs.specs.declared.limit.Limit.TheVariants.{ProofBytes}
use Rattle.hrt_inputs.specs.declared.stop.Stop.{Stop}
use Rattle.hrt_inputs.specs.declared.stop.Stop.TheVariants.{Refused, Exceeded, PairsRefused, ModelRefused, ProofRefused, ReadFault, NoMemory}
use Rattle.hrt_inputs.specs.Inputs.{IsTooLong, OnlyRead}
use Rattle.hrt_inputs.specs.Limits.{most}
use Rattle.hrt_inputs.specs.Loading.{FailedToRead}

-- the file was read to its end with no call failed, and this is its verdict over the formula
pub record IsProofJudged (told : Type 0) (name : List ℕ) (f : Formula) (verdict : Verdict) (old new : World) : Type 0 where
  pub only_read : OnlyRead told old new
  pub read_faults : new.read_faults ≡ old.read_faults
  pub begun : new.begun ≡ put Proof Reading old.begun
  pub content : told → new.content ≡ with_rest Proof [] old.content
  pub judged : told → (bytes : List ℕ) × (old.content.file name ≡ Some bytes) × (length bytes ≤ most ProofBytes) × HasVerdict f bytes verdict

-- the same, and the verdict is this refusal
pub record IsProofRefused (told : Type 0) (name : List ℕ) (f : Formula) (refusal : ProofRefusal) (old new : World) : Type 0 where
  pub verdict : Verdict
  pub is : refusal_verdict refusal ≡ Some verdict
  pub judged : IsProofJudged told name f verdict old new

-- the limit that was passed is that of proofs
pub record IsProofTooLong (told : Type 0) (name : List ℕ) (limit : Limit) (old new : World) : Type 0 where
  pub is : limit ≡ ProofBytes
  pub too_long : IsTooLong told Proof name (most ProofBytes) old new

-- why a proof was not accepted
abbrev pub check_stop : CheckRefusal → Stop
check_stop check.Failed = ReadFault
check_stop check.TooLong = Exceeded ProofBytes
check_stop (check.Proof refusal) = ProofRefused refusal
check_stop check.NoMemory = NoMemory

-- the proof in a file was not accepted, and this is why
abbrev pub StopsProof : (told : Type 0) → List ℕ → Formula → Stop → World → World → Type 0
StopsProof told name f (Refused kind line) old new = ⊥
StopsProof told name f (Exceeded limit) old new = IsProofTooLong told name limit old new
StopsProof told name f (PairsRefused kind line) old new = ⊥
StopsProof told name f (ModelRefused kind line) old new = ⊥
StopsProof told name f (ProofRefused refusal) old new = IsProofRefused told name f refusal old new
StopsProof told name f ReadFault old new = FailedToRead told old new
StopsProof told name f NoMemory old new = OnlyRead told old new
