-- What judging the proof on its port comes to.
use Rattle.std.specs.Prelude.{◌≡◌, ◌≤◌, ℕ, List, [], length, Some}
use Rattle.hrt_base.specs.declared.port.Port.TheVariants.{Proof as ProofPort}
use Rattle.hrt_base.specs.declared.failure.ReadEnd.{ReadEnd}
use Rattle.hrt_base.specs.declared.failure.ReadEnd.TheVariants as end
use Rattle.hrt_base.specs.Calls.{Rose, Taken, TakenPast, TakenWithin}
use Rattle.hrt_base.specs.World.{World}
use Rattle.pb_rows.specs.Formula.{Formula}
use Rattle.proof_rules.specs.Texts.{HasVerdict, Verdict}
use Rattle.proof_checker.specs.declared.refusal.ProofRefusal.{ProofRefusal}
use Rattle.proof_checker.specs.declared.refusal.ProofRefusal.TheVariants as checker
use Rattle.proof_checker.specs.Answers.{refusal_verdict}
use Rattle.proof_checker.specs.Limits.{most_proof_bytes}
use Rattle.proof_checker.specs.Standing.{Checked, StandsFor}
use Rattle.hrt_solve.specs.declared.refusal.CheckRefusal.{CheckRefusal}
use Rattle.hrt_solve.specs.declared.refusal.CheckRefusal.TheVariants.{Failed, TooLong, Proof, NoMemory}

-- ---- what was read

-- all that was left on the port, within the limit
pub record IsReadOut (told : Type 0) (bytes : List ℕ) (old new : World) : Type 0 where
  pub short : length bytes ≤ most_proof_bytes
  pub taken : Taken told ProofPort bytes old new
  pub rest : told → new.content.rest ProofPort ≡ []

-- the proof was read to its end, and these are the bytes that the checker was fed
pub record IsFed (told : Type 0) (before now : Checked) (old new : World) : Type 0 where
  pub fed : now ≡ record before { bytes = now.bytes }
  pub stands : StandsFor now.bytes now
  pub read : IsReadOut told now.bytes old new

-- why reading ended early, as a refusal
abbrev pub check_end : ReadEnd → CheckRefusal
check_end end.Failed = Failed
check_end end.TooLong = TooLong
check_end end.NoMemory = NoMemory

-- a read failed, with no more bytes taken than a proof may have
pub record FailsToRead (told : Type 0) (old new : World) : Type 0 where
  pub rose : Rose old.read_faults new.read_faults
  pub within : TakenWithin told ProofPort most_proof_bytes old new

-- why a proof was not read to its end
abbrev pub EndsReading : (told : Type 0) → ReadEnd → World → World → Type 0
EndsReading told end.Failed old new = FailsToRead told old new
EndsReading told end.TooLong old new = TakenPast told ProofPort most_proof_bytes old new
EndsReading told end.NoMemory old new = TakenWithin told ProofPort most_proof_bytes old new

-- ---- what was judged

-- the proof was read to its end, and has this verdict
pub record IsJudged (told : Type 0) (f : Formula) (verdict : Verdict) (old new : World) : Type 0 where
  pub bytes : List ℕ
  pub read : IsReadOut told bytes old new
  pub judged : HasVerdict f bytes verdict

-- the proof was read to its end, and this refusal is its verdict
pub record IsRefused (told : Type 0) (f : Formula) (refusal : ProofRefusal) (old new : World) : Type 0 where
  pub verdict : Verdict
  pub is : refusal_verdict refusal ≡ Some verdict
  pub judged : IsJudged told f verdict old new

-- a refusal of the checker; its want of memory is no refusal of the proof
abbrev pub check_refusal : ProofRefusal → CheckRefusal
check_refusal checker.NoMemory = NoMemory
check_refusal refusal = Proof refusal

-- why a proof was not accepted
abbrev pub StopsCheck : (told : Type 0) → Formula → CheckRefusal → World → World → Type 0
StopsCheck told f Failed old new = FailsToRead told old new
StopsCheck told f TooLong old new = TakenPast told ProofPort most_proof_bytes old new
StopsCheck told f (Proof refusal) old new = IsRefused told f refusal old new
StopsCheck told f NoMemory old new = TakenWithin told ProofPort most_proof_bytes old new
