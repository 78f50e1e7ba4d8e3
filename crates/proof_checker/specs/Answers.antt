-- What the answers of a checker say.
use Rattle.std.specs.Prelude.{◌≡◌, ◌⊎◌, ℕ, List, Option, Some, None, Result, Ok, Err, IfSome}
use Rattle.pb_rows.specs.Formula.{Formula}
use Rattle.proof_lines.specs.declared.line.Claim.{Claim}
use Rattle.proof_rules.specs.Refusals as why
use Rattle.proof_rules.specs.Refusals.{Refusal, RefusalAt}
use Rattle.proof_rules.specs.Texts as text
use Rattle.proof_rules.specs.Texts.{Verdict, HasVerdict}
use Rattle.proof_checker.specs.declared.refusal.ProofRefusal.{ProofRefusal}
use Rattle.proof_checker.specs.declared.refusal.ProofRefusal.TheVariants.{Syntax, BadId, BadVariable, StackShape, TooBig, NotFull, NotImplied, NotASolution, BoundNotShown, WrongCount, Truncated, NoMemory}

-- the verdict that the line is refused for that reason
abbrev pub refused_at : ℕ → Refusal → Verdict
refused_at line reason = text.Refused (record { line = line; why = reason })

-- the verdict of a refusal; want of memory is none
abbrev pub refusal_verdict : ProofRefusal → Option Verdict
refusal_verdict (Syntax line) = Some (refused_at line why.Syntax)
refusal_verdict (BadId line id) = Some (refused_at line (why.BadId id))
refusal_verdict (BadVariable line var) = Some (refused_at line (why.BadVariable var))
refusal_verdict (StackShape line) = Some (refused_at line why.StackShape)
refusal_verdict (TooBig line) = Some (refused_at line why.TooBig)
refusal_verdict (NotFull line) = Some (refused_at line why.NotFull)
refusal_verdict (NotImplied line) = Some (refused_at line why.NotImplied)
refusal_verdict (NotASolution line row) = Some (refused_at line (why.NotASolution row))
refusal_verdict (BoundNotShown line) = Some (refused_at line why.BoundNotShown)
refusal_verdict (WrongCount line) = Some (refused_at line why.WrongCount)
refusal_verdict Truncated = Some text.Truncated
refusal_verdict NoMemory = None

-- the verdict that an answer gives, if any; want of memory gives none
abbrev pub verdict_of : Result Claim ProofRefusal → Option Verdict
verdict_of (Ok claim) = Some (text.Accepted claim)
verdict_of (Err refusal) = refusal_verdict refusal

-- The answer is the text's verdict, unless memory was wanting; and the text has no other.
pub record Judges (f : Formula) (bytes : List ℕ) (answer : Result Claim ProofRefusal) : Type 0 where
  pub holds : IfSome (verdict_of answer) (HasVerdict f bytes)
  pub only : (verdict : Verdict) → HasVerdict f bytes verdict → (verdict_of answer ≡ Some verdict) ⊎ (answer ≡ Err NoMemory)
