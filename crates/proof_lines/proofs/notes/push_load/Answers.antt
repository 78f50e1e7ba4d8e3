use Rattle.std.proofs.Common.{◌++◌, ℕ, List, ap, ◌∙◌}
use Rattle.std.specs.Prelude.{codes, map}
use Rattle.row_text.specs.Tokens.{spaced}
use Rattle.row_text.proofs.RowWords.{colon_between}
use Rattle.proof_lines.specs.Texts.{id_text, variable_text}
use Rattle.proof_lines.proofs.notes.push_load.Goals as goal

pub returns-clause-ok : goal.returns-clause-ok
returns-clause-ok c =
    let vs : List (List ℕ) = map variable_text c.args.trues.now in
    let ws : List (List ℕ) = map id_text c.args.rows.now in
    c.in_ok-push_ids.ensures.ok ∙ ap (λ (l : List ℕ). l ++ spaced ws) (c.in_ok-extend_from_slice.ensures.items ∙ ap (λ (l : List ℕ). l ++ codes " :") c.in_ok-push_variables.ensures.ok)
    ∙ colon_between c.args.out.now.items vs ws
