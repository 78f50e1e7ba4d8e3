use Rattle.std.proofs.Common.{◌≡◌, [], ◌∷◌, ◌++◌, take}
use Rattle.std.specs.Prelude.{flat_map}
use Rattle.hrt_base.specs.declared.literal.Lit.{Lit}
use Rattle.row_text.specs.Rows.{literal_text}
use Rattle.row_text.specs.Tokens.{spaced}
use Rattle.proof_lines.proofs.writing.push_literals.Given as goal

abbrev pub invariant-loop-lit : goal.invariant-loop-lit
invariant-loop-lit l = l.out.items ≡ l.initial.out.items ++ flat_map (λ (x : Lit). spaced (literal_text x ∷ [])) (take l.lit-index l.lits)
