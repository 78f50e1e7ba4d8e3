use Rattle.std.proofs.Common.{◌≡◌, [], ◌∷◌, ◌++◌, take}
use Rattle.std.specs.Prelude.{flat_map}
use Rattle.hrt_base.specs.declared.numbered.RowNo.{RowNo}
use Rattle.proof_lines.specs.Texts.{id_text}
use Rattle.row_text.specs.Tokens.{spaced}
use Rattle.proof_lines.proofs.writing.push_ids.Given as goal

abbrev pub invariant-loop-id : goal.invariant-loop-id
invariant-loop-id l = l.out.items ≡ l.initial.out.items ++ flat_map (λ (x : RowNo). spaced (id_text x ∷ [])) (take l.id-index l.ids)
