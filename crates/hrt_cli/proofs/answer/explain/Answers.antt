use Rattle.std.proofs.Common.{subst, sym}
use Rattle.hrt_inputs.specs.declared.stop.Stop.{Stop}
use Rattle.hrt_cli.specs.Answers.{Explains}
use Rattle.hrt_cli.proofs.ToldProofs.{answer_with, refusal_told}
use Rattle.hrt_cli.proofs.answer.explain.Goals as goal

pub returns-in_ok-proof_refusal_report-in-ProofRefused-clause-told :
    goal.returns-in_ok-proof_refusal_report-in-ProofRefused-clause-told
returns-in_ok-proof_refusal_report-in-ProofRefused-clause-told c =
    let text = c.in_ok-proof_refusal_report-in-ProofRefused.field-0 in
    subst (λ (stop : Stop). Explains stop (answer_with text)) (sym c.in-ProofRefused.is) (refusal_told c.in-ProofRefused.refusal text c.in_ok-proof_refusal_report-in-ProofRefused.ensures)
