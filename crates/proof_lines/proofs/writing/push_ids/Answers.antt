use Rattle.std.proofs.Common.{[], ◌∷◌, ◌++◌, ℕ, List, ap, sym, ◌∙◌, arith}
use Rattle.std.specs.Prelude.{flat_map}
use Rattle.std.proofs.lemmas.List.{take_all}
use Rattle.hrt_base.specs.declared.numbered.RowNo.{RowNo}
use Rattle.proof_lines.specs.Texts.{id_text}
use Rattle.row_text.specs.Tokens.{spaced}
use Rattle.row_text.proofs.RowWords.{spaced_mapped}
use Rattle.proof_lines.proofs.writing.push_ids.Goals as goal

pub returns-clause-ok : goal.returns-clause-ok
returns-clause-ok c =
    let xs : List RowNo = c.args.ids.now in
    let before : List ℕ = c.args.out.now.items in
    c.loop-id.invariant ∙ ap (λ (ys : List RowNo). before ++ flat_map (λ (x : RowNo). spaced (id_text x ∷ [])) ys) (take_all c.loop-id.id-index xs (omega arith))
    ∙ ap (λ (l : List ℕ). before ++ l) (sym (spaced_mapped id_text xs))
