use Rattle.std.proofs.Common.{◌≡◌, ◌++◌, take}
use Rattle.std.specs.Prelude.{flat_map}
use Rattle.proof_lines.specs.declared.line.PolStep.{PolStep}
use Rattle.proof_lines.specs.Texts.{step_words}
use Rattle.row_text.specs.Tokens.{spaced}
use Rattle.proof_lines.proofs.writing.push_steps.Given as goal

abbrev pub invariant-loop-step : goal.invariant-loop-step
invariant-loop-step l = l.out.items ≡ l.initial.out.items ++ flat_map (λ (x : PolStep). spaced (step_words x)) (take l.step-index l.steps)
