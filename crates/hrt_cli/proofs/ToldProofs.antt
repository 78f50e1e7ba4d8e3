-- What is told of a proof that is not accepted.
use Rattle.std.specs.Prelude.{IsSomeAnd}
use Rattle.std.proofs.Common.{◌≡◌, ℕ, List, Option, Some, None, refl}
use Rattle.proof_rules.specs.Texts.{Verdict, Accepted, Refused, Truncated}
use Rattle.proof_checker.specs.declared.refusal.ProofRefusal.{ProofRefusal}
use Rattle.proof_checker.specs.Answers.{refusal_verdict}
use Rattle.hrt_inputs.specs.declared.stop.Stop.TheVariants as stop
use Rattle.hrt_cli.specs.declared.answer.Answer.{Answer}
use Rattle.hrt_cli.specs.declared.status.Status.TheVariants.{ProofRefused}
use Rattle.hrt_cli.specs.Answers.{Explains, IsAnswer}
use Rattle.hrt_cli.specs.Outcomes.{rejected}
use Rattle.hrt_cli.specs.Reports.{TellsOfProof, rejection_by, rejection_report}

abbrev pub answer_with : List ℕ → Answer
answer_with text = record { status = ProofRefused; report = text }

told_by : (o : Option Verdict) (text : List ℕ) → IsSomeAnd (rejection_by o) (λ rejection. text ≡ rejection_report rejection) → IsSomeAnd (rejection_by o) (λ rejection. IsAnswer (rejected rejection) (answer_with text))
told_by None text tells = tells
told_by (Some (Accepted claim)) text tells = tells
told_by (Some (Refused r)) text tells = record { status = refl; report = tells }
told_by (Some Truncated) text tells = record { status = refl; report = tells }

pub refusal_told : (refusal : ProofRefusal) (text : List ℕ) → TellsOfProof refusal text → Explains (stop.ProofRefused refusal) (answer_with text)
refusal_told refusal text tells = told_by (refusal_verdict refusal) text tells
