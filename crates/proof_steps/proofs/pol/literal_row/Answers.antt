use Rattle.std.proofs.Common.{◌≡◌, ◌∙◌, [], ◌∷◌, pos}
use Rattle.std.proofs.lemmas.Result.{IfOk-weaker}
use Rattle.pb_rows.specs.Terms.{PlainRow, weighing}
use Rattle.pb_rows.specs.Normal.{normal_form}
use Rattle.pb_rows.specs.Rows.{literal_row}
use Rattle.proof_steps.proofs.Stacks.{literal_row_is}
use Rattle.proof_steps.proofs.pol.literal_row.Goals as goal

pub returns : goal.returns
returns c =
    let P : PlainRow → Type 0 = λ row. row ≡ normal_form (weighing 1 c.args.lit ∷ []) (pos 0) in
    let Q : PlainRow → Type 0 = λ row. row ≡ literal_row c.args.lit in
    IfOk-weaker c.from_terms_that_fit.result P Q (λ row is. is ∙ literal_row_is c.args.lit) c.from_terms_that_fit.ensures
