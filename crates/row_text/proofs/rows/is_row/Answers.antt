use Rattle.std.proofs.Common.{◌≡◌, ◌∷◌, ℕ, List, sym, ap, ◌∙◌, false, true}
use Rattle.std.specs.Prelude.{is_some, codes, bytes_eq}
use Rattle.row_text.specs.Rows.{read_row}
use Rattle.row_text.specs.Readings.{is_spelled}
use Rattle.row_text.specs.Tokens.{tokens}
use Rattle.row_text.proofs.RowSteps.{spelled_term, unspelled_term, spelled_end}
use Rattle.row_text.proofs.rows.is_row.Goals as goal

pub returns-then-eq : goal.returns-then-eq
returns-then-eq c =
    let t : List ℕ = c.in-Some.first.now in
    let u : List ℕ = c.in-Some-next_token.second.now in
    let rest : List (List ℕ) = tokens c.in-Some-next_token.after.now in
    let front : tokens c.loop-first.rest.now ≡ t ∷ u ∷ rest = c.in-Some.ensures.some ∙ ap (λ (ts : List (List ℕ)). t ∷ ts) c.in-Some-next_token.ensures.some in
    let test : bytes_eq t (codes ">=") ≡ true = ap (bytes_eq t) (sym c.as_slice.ensures) ∙ sym c.eq.ensures ∙ c.if-eq.true in
    sym (c.loop-first.invariant ∙ ap (λ (ts : List (List ℕ)). is_some (read_row ts)) front ∙ spelled_end t u rest test ∙ ap is_spelled (sym c.read_right.ensures) ∙ sym c.is_spelled.ensures)

pub returns-then-not-is_spelled : goal.returns-then-not-is_spelled
returns-then-not-is_spelled c =
    let t : List ℕ = c.in-Some.first.now in
    let u : List ℕ = c.in-Some-next_token.second.now in
    let rest : List (List ℕ) = tokens c.in-Some-next_token.after.now in
    let front : tokens c.loop-first.rest.now ≡ t ∷ u ∷ rest = c.in-Some.ensures.some ∙ ap (λ (ts : List (List ℕ)). t ∷ ts) c.in-Some-next_token.ensures.some in
    let test : bytes_eq t (codes ">=") ≡ false = ap (bytes_eq t) (sym c.as_slice.ensures) ∙ sym c.eq.ensures ∙ c.if-eq.false in
    sym (c.loop-first.invariant ∙ ap (λ (ts : List (List ℕ)). is_some (read_row ts)) front ∙ unspelled_term t u rest test (ap is_spelled (sym c.read_term.ensures) ∙ sym c.is_spelled-in-Some.ensures ∙ c.if-not-is_spelled.true))

pub loop-first-preserved : goal.loop-first-preserved
loop-first-preserved c =
    let t : List ℕ = c.in-Some.first.now in
    let u : List ℕ = c.in-Some-next_token.second.now in
    let rest : List (List ℕ) = tokens c.in-Some-next_token.after.now in
    let front : tokens c.loop-first.rest.now ≡ t ∷ u ∷ rest = c.in-Some.ensures.some ∙ ap (λ (ts : List (List ℕ)). t ∷ ts) c.in-Some-next_token.ensures.some in
    let test : bytes_eq t (codes ">=") ≡ false = ap (bytes_eq t) (sym c.as_slice.ensures) ∙ sym c.eq.ensures ∙ c.if-eq.false in
    c.loop-first.invariant ∙ ap (λ (ts : List (List ℕ)). is_some (read_row ts)) front ∙ spelled_term t u rest test (ap is_spelled (sym c.read_term.ensures) ∙ sym c.is_spelled-in-Some.ensures ∙ c.if-not-is_spelled.false)
