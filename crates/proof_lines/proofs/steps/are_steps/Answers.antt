use Rattle.std.proofs.Common.{ℕ, List, sym, ap, ◌∙◌}
use Rattle.std.specs.Prelude.{is_some}
use Rattle.row_text.specs.Readings.{is_spelled}
use Rattle.row_text.specs.Tokens.{tokens}
use Rattle.proof_lines.specs.Spelling.{read_steps}
use Rattle.proof_lines.proofs.StepByStep.{spelled_step, unspelled_step}
use Rattle.proof_lines.proofs.steps.are_steps.Goals as goal

pub returns-then-not-is_spelled : goal.returns-then-not-is_spelled
returns-then-not-is_spelled c =
    let t : List ℕ = c.in-Some.first.now in
    let rest : List (List ℕ) = tokens c.in-Some.after.now in
    sym (c.loop-first.invariant ∙ ap (λ (ts : List (List ℕ)). is_some (read_steps ts)) c.in-Some.ensures.some ∙ unspelled_step t rest (ap is_spelled (sym c.next_step-step.ensures.step) ∙ sym c.is_spelled.ensures ∙ c.if-not-is_spelled.true))

pub loop-first-preserved : goal.loop-first-preserved
loop-first-preserved c =
    let t : List ℕ = c.in-Some.first.now in
    let rest : List (List ℕ) = tokens c.in-Some.after.now in
    c.loop-first.invariant ∙ ap (λ (ts : List (List ℕ)). is_some (read_steps ts)) c.in-Some.ensures.some ∙ spelled_step t rest (ap is_spelled (sym c.next_step-step.ensures.step) ∙ sym c.is_spelled.ensures ∙ c.if-not-is_spelled.false)
    ∙ ap (λ (ts : List (List ℕ)). is_some (read_steps ts)) (sym c.next_step-step.ensures.rest)
