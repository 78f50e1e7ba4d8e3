use Rattle.std.proofs.Common.{◌≡◌, [], ◌∷◌, ◌++◌, ℕ, List, ap, ap₂, ◌∙◌, append_assoc, rules}
use mir.Val.{SFits, of_z, to_z}
use Rattle.std.specs.Int.{w128}
use Rattle.std.proofs.lemmas.Int.{to_z-of_z}
use Rattle.pb_rows.specs.Terms.{Written}
use Rattle.row_text.specs.Rows.{row_text}
use Rattle.row_text.proofs.RowSteps.{row_of}
use Rattle.row_text.proofs.RowWords.{row_text_spaced}
use Rattle.proof_lines.proofs.writing.push_spaced_row.Goals as goal

pub returns-clause-ok : goal.returns-clause-ok
returns-clause-ok c =
    let row : Written = c.args.row.now in
    let before : List ℕ = c.args.out.now.items in
    let fits : SFits w128 c.row.inside.at_least = search rules in
    let passed : row_of c.as_slice.result.now (to_z w128 (of_z w128 c.row.inside.at_least)) ≡ row =
    ap₂ row_of c.as_slice.ensures.value (to_z-of_z w128 c.row.inside.at_least fits) ∙ c.row.view_is in
    c.in_ok-push_row.ensures.ok ∙ ap₂ (λ (front : List ℕ) (r : Written). front ++ row_text r) c.in_ok-push.ensures.items passed
    ∙ append_assoc before (32 ∷ []) (row_text row) ∙ ap (λ (l : List ℕ). before ++ l) (row_text_spaced row)
