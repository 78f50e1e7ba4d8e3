use Rattle.std.proofs.Common.{◌≡◌, [], ◌∷◌, ℕ, List, sym, ap, ap₂, ◌∙◌}
use Rattle.std.specs.Prelude.{codes}
use Rattle.row_text.specs.Readings.{reading}
use Rattle.row_text.specs.Tokens.{tokens}
use Rattle.proof_lines.specs.Claims.{joined}
use Rattle.proof_lines.specs.Spelling.{is_small_claim, read_bound, read_bounds}
use Rattle.proof_lines.proofs.Bounds.{joined-readings}
use Rattle.proof_lines.proofs.claims.read_bounds.Goals as goal

pub returns-in-None : goal.returns-in-None
returns-in-None c =
    let l : List ℕ = c.in-Some.lower.now in
    let u : List ℕ = c.in-Some-next_token.upper.now in
    let front : tokens c.args.line.now ≡ l ∷ u ∷ [] =
    c.in-Some.ensures.some ∙ ap (λ (ts : List (List ℕ)). l ∷ ts) (c.in-Some-next_token.ensures.some ∙ ap (λ (ts : List (List ℕ)). u ∷ ts) c.in-None.ensures.none) in
    c.joined.ensures ∙ ap₂ joined c.read_bound.ensures c.read_bound-in-None.ensures ∙ joined-readings (read_bound (codes "-INF") l) (read_bound (codes "INF") u)
    ∙ ap (λ (ts : List (List ℕ)). reading is_small_claim (read_bounds ts)) (sym front)
