-- The verdict on the bytes of a checker is that on the texts it stands for.
use Rattle.std.proofs.Common.{◌≡◌, ◌↔◌, List, ℕ, ◌⊎◌, inl, inr, refl, ap}
use Rattle.std.specs.Prelude.{IfSome, Option, Some, None, Result, Ok, Err}
use Rattle.pb_rows.specs.Formula.{Formula}
use Rattle.proof_lines.specs.declared.line.Claim.{Claim}
use Rattle.proof_rules.specs.Texts.{HasVerdict, Verdict}
use Rattle.proof_rules.proofs.Verdicts.{one_verdict}
use Rattle.proof_checker.specs.declared.refusal.ProofRefusal.{ProofRefusal}
use Rattle.proof_checker.specs.declared.refusal.ProofRefusal.TheVariants.{Syntax, BadId, BadVariable, StackShape, TooBig, NotFull, NotImplied, NotASolution, BoundNotShown, WrongCount, Truncated, NoMemory}
use Rattle.proof_checker.specs.Standing.{Checked, LeadsTo, Led, StandsFor}
use Rattle.proof_checker.specs.Answers.{Judges, verdict_of}
use Rattle.proof_checker.proofs.Carrying.{carried_valid, carried_verdict}

is_memory : (answer : Result Claim ProofRefusal) → verdict_of answer ≡ None → answer ≡ Err NoMemory
is_memory (Ok claim) e = absurd (cc e)
is_memory (Err NoMemory) e = refl
is_memory (Err Truncated) e = absurd (cc e)
is_memory (Err (Syntax line)) e = absurd (cc e)
is_memory (Err (BadId line id)) e = absurd (cc e)
is_memory (Err (BadVariable line var)) e = absurd (cc e)
is_memory (Err (StackShape line)) e = absurd (cc e)
is_memory (Err (TooBig line)) e = absurd (cc e)
is_memory (Err (NotFull line)) e = absurd (cc e)
is_memory (Err (NotImplied line)) e = absurd (cc e)
is_memory (Err (NotASolution line row)) e = absurd (cc e)
is_memory (Err (BoundNotShown line)) e = absurd (cc e)
is_memory (Err (WrongCount line)) e = absurd (cc e)

module _ (f : Formula) (a b : List ℕ) (same : (led : Led) → LeadsTo f a led ↔ LeadsTo f b led) where
  there : (verdict : Verdict) → HasVerdict f a verdict → HasVerdict f b verdict
  there = carried_verdict f a b (λ led. (same led).0) (carried_valid f b a (λ led. (same led).1))

  holds_by : (o : Option Verdict) → IfSome o (HasVerdict f a) → IfSome o (HasVerdict f b)
  holds_by None h = tt
  holds_by (Some verdict) h = there verdict h

  only_by : (o : Option Verdict) → IfSome o (HasVerdict f b) → (verdict : Verdict) → HasVerdict f b verdict → (o ≡ Some verdict) ⊎ (o ≡ None)
  only_by None h verdict v = inr refl
  only_by (Some found) h verdict v = inl (ap Some (one_verdict f b found verdict h v))

  pub judged : (answer : Result Claim ProofRefusal) → IfSome (verdict_of answer) (HasVerdict f a) → Judges f b answer
  judged answer h =
      let holds = holds_by (verdict_of answer) h in
      record {
        holds = holds;
        only = λ verdict v. elim (only_by (verdict_of answer) holds verdict v) [
          | inl e ↦ inl e
          | inr e ↦ inr (is_memory answer e)
        ];
      }

pub no_memory : (f : Formula) (text : List ℕ) → Judges f text (Err NoMemory)
no_memory f text = record { holds = tt; only = λ verdict v. inr refl }

pub stands-judged : (text : List ℕ) (checked : Checked) (answer : Result Claim ProofRefusal) → StandsFor text checked → IfSome (verdict_of answer) (HasVerdict checked.formula checked.bytes) → Judges checked.formula text answer
stands-judged text checked answer s h = judged checked.formula checked.bytes text s.leads answer h
