use Rattle.std.proofs.Common.{◌≡◌, ◌∷◌, ℕ, List, sym, ap, ◌∙◌}
use Rattle.std.specs.Prelude.{is_some}
use Rattle.row_text.specs.Readings.{is_spelled}
use Rattle.row_text.specs.Tokens.{tokens}
use Rattle.opb_text.specs.Statements.{read_objective}
use Rattle.opb_text.proofs.ObjectiveSteps.{spelled_term, unspelled_term}
use Rattle.opb_text.proofs.objective.is_objective.Goals as goal

pub returns-then-not-is_spelled : goal.returns-then-not-is_spelled
returns-then-not-is_spelled c =
    let t : List ℕ = c.in-Some.first.now in
    let u : List ℕ = c.in-Some-next_token.second.now in
    let rest : List (List ℕ) = tokens c.in-Some-next_token.after.now in
    let front : tokens c.loop-first.rest.now ≡ t ∷ u ∷ rest = c.in-Some.ensures.some ∙ ap (λ (ts : List (List ℕ)). t ∷ ts) c.in-Some-next_token.ensures.some in
    sym (c.loop-first.invariant ∙ ap (λ (ts : List (List ℕ)). is_some (read_objective ts)) front
    ∙ unspelled_term t u rest (ap is_spelled (sym c.read_term.ensures) ∙ sym c.is_spelled.ensures ∙ c.if-not-is_spelled.true))

pub loop-first-preserved : goal.loop-first-preserved
loop-first-preserved c =
    let t : List ℕ = c.in-Some.first.now in
    let u : List ℕ = c.in-Some-next_token.second.now in
    let rest : List (List ℕ) = tokens c.in-Some-next_token.after.now in
    let front : tokens c.loop-first.rest.now ≡ t ∷ u ∷ rest = c.in-Some.ensures.some ∙ ap (λ (ts : List (List ℕ)). t ∷ ts) c.in-Some-next_token.ensures.some in
    c.loop-first.invariant ∙ ap (λ (ts : List (List ℕ)). is_some (read_objective ts)) front
    ∙ spelled_term t u rest (ap is_spelled (sym c.read_term.ensures) ∙ sym c.is_spelled.ensures ∙ c.if-not-is_spelled.false)
