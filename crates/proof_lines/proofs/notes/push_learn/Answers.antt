use Rattle.std.proofs.Common.{[], ◌∷◌, ◌++◌, ℕ, List, ap, ◌∙◌}
use Rattle.std.specs.Prelude.{codes, map}
use Rattle.row_text.specs.Rows.{literal_text}
use Rattle.row_text.specs.Tokens.{spaced}
use Rattle.row_text.proofs.RowWords.{colon_between}
use Rattle.proof_lines.proofs.notes.push_learn.Goals as goal

pub returns-clause-ok : goal.returns-clause-ok
returns-clause-ok c =
    let vs : List (List ℕ) = map literal_text c.args.decisions.now in
    let ws : List (List ℕ) = literal_text c.args.asserts ∷ [] in
    c.in_ok-push_spaced_literal.ensures.ok ∙ ap (λ (l : List ℕ). l ++ spaced ws) (c.in_ok-extend_from_slice.ensures.items ∙ ap (λ (l : List ℕ). l ++ codes " :") c.in_ok-push_literals.ensures.ok)
    ∙ colon_between c.args.out.now.items vs ws
