use Rattle.std.proofs.Common.{◌≡◌, ◌∷◌, ℕ, List, sym, ap, ◌∙◌}
use Rattle.std.specs.Prelude.{option_map}
use Rattle.hrt_base.specs.declared.literal.Term.{Term}
use Rattle.row_text.specs.Tokens.{tokens}
use Rattle.opb_text.specs.Statements.{read_objective}
use Rattle.opb_text.proofs.ObjectiveSteps.{bad_rest, big_term, no_term, onto, term_read, unspelled}
use Rattle.opb_text.proofs.objective.spelled_terms.Goals as goal
use Rattle.opb_text.proofs.objective.spelled_terms.Goals.{then-is_objective, else-is_objective}

pub returns-in-TooBig-clause-refused : goal.returns-in-TooBig-clause-refused
returns-in-TooBig-clause-refused c =
    let t : List ℕ = c.in-Some.first.now in
    let u : List ℕ = c.in-Some-next_token.second.now in
    let rest : List (List ℕ) = tokens c.in-Some-next_token.after.now in
    let ts : List Term = c.loop-first.terms.items in
    let front : tokens c.loop-first.rest.now ≡ t ∷ u ∷ rest = c.in-Some.ensures.some ∙ ap (λ (us : List (List ℕ)). t ∷ us) c.in-Some-next_token.ensures.some in
    let whole = c.loop-first.invariant ∙ ap (λ (us : List (List ℕ)). option_map (onto ts) (read_objective us)) front in
    elim c.if-is_objective.branch [
      | then-is_objective w ↦
          rw w.result-is (big_term c.args.number _ ts t u rest whole (sym c.in-TooBig.is ∙ c.read_term.ensures) (sym c.is_objective.ensures ∙ w.if-is_objective.true))
      | else-is_objective w ↦
          rw w.result-is (unspelled c.args.number _ (bad_rest _ ts t u rest whole (sym c.is_objective.ensures ∙ w.if-is_objective.false)))
    ]

pub returns-in-Unspelled-clause-refused : goal.returns-in-Unspelled-clause-refused
returns-in-Unspelled-clause-refused c =
    let t : List ℕ = c.in-Some.first.now in
    let u : List ℕ = c.in-Some-next_token.second.now in
    let rest : List (List ℕ) = tokens c.in-Some-next_token.after.now in
    let ts : List Term = c.loop-first.terms.items in
    let front : tokens c.loop-first.rest.now ≡ t ∷ u ∷ rest = c.in-Some.ensures.some ∙ ap (λ (us : List (List ℕ)). t ∷ us) c.in-Some-next_token.ensures.some in
    let whole = c.loop-first.invariant ∙ ap (λ (us : List (List ℕ)). option_map (onto ts) (read_objective us)) front in
    unspelled c.args.number _ (no_term _ ts t u rest whole (sym c.in-Unspelled.is ∙ c.read_term.ensures))

pub loop-first-preserved : goal.loop-first-preserved
loop-first-preserved c =
    let t : List ℕ = c.in-Some.first.now in
    let u : List ℕ = c.in-Some-next_token.second.now in
    let rest : List (List ℕ) = tokens c.in-Some-next_token.after.now in
    let ts : List Term = c.loop-first.terms.items in
    let front : tokens c.loop-first.rest.now ≡ t ∷ u ∷ rest = c.in-Some.ensures.some ∙ ap (λ (us : List (List ℕ)). t ∷ us) c.in-Some-next_token.ensures.some in
    let whole = c.loop-first.invariant ∙ ap (λ (us : List (List ℕ)). option_map (onto ts) (read_objective us)) front in
    rw c.in_ok-push-in-Value.ensures.items (term_read _ ts t u rest c.in-Value.term whole (sym c.in-Value.is ∙ c.read_term.ensures))
