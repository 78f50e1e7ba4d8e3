use Rattle.std.proofs.Common.{◌++◌, ℕ, List, ap, sym, ◌∙◌, arith}
use Rattle.std.specs.Prelude.{flat_map}
use Rattle.std.proofs.lemmas.List.{take_all}
use Rattle.proof_lines.specs.declared.line.PolStep.{PolStep}
use Rattle.proof_lines.specs.Texts.{step_words}
use Rattle.row_text.specs.Tokens.{spaced}
use Rattle.row_text.proofs.RowWords.{spaced_items}
use Rattle.proof_lines.proofs.writing.push_steps.Goals as goal

pub returns-clause-ok : goal.returns-clause-ok
returns-clause-ok c =
    let xs : List PolStep = c.args.steps.now in
    let before : List ℕ = c.args.out.now.items in
    c.loop-step.invariant ∙ ap (λ (ys : List PolStep). before ++ flat_map (λ (x : PolStep). spaced (step_words x)) ys) (take_all c.loop-step.step-index xs (omega arith))
    ∙ ap (λ (l : List ℕ). before ++ l) (sym (spaced_items step_words xs))
