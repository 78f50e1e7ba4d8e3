use Rattle.std.proofs.Common.{[], ◌∷◌, ◌++◌, ℕ, List, ap, sym, ◌∙◌, arith}
use Rattle.std.specs.Prelude.{flat_map}
use Rattle.std.proofs.lemmas.List.{take_all}
use Rattle.proof_lines.specs.Texts.{variable_text}
use Rattle.row_text.specs.Tokens.{spaced}
use Rattle.row_text.proofs.RowWords.{spaced_mapped}
use Rattle.proof_lines.proofs.notes.push_variables.Goals as goal

pub returns-clause-ok : goal.returns-clause-ok
returns-clause-ok c =
    let xs : List ℕ = c.args.vars.now in
    let before : List ℕ = c.args.out.now.items in
    c.loop-var.invariant ∙ ap (λ (ys : List ℕ). before ++ flat_map (λ (x : ℕ). spaced (variable_text x ∷ [])) ys) (take_all c.loop-var.var-index xs (omega arith))
    ∙ ap (λ (l : List ℕ). before ++ l) (sym (spaced_mapped variable_text xs))
