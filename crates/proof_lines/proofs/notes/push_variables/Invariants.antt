use Rattle.std.proofs.Common.{◌≡◌, [], ◌∷◌, ◌++◌, ℕ, take}
use Rattle.std.specs.Prelude.{flat_map}
use Rattle.proof_lines.specs.Texts.{variable_text}
use Rattle.row_text.specs.Tokens.{spaced}
use Rattle.proof_lines.proofs.notes.push_variables.Given as goal

abbrev pub invariant-loop-var : goal.invariant-loop-var
invariant-loop-var l = l.out.items ≡ l.initial.out.items ++ flat_map (λ (x : ℕ). spaced (variable_text x ∷ [])) (take l.var-index l.vars)
