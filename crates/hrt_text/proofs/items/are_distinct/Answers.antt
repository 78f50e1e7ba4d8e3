use Rattle.std.proofs.Common.{◌≡◌, ◌++◌, ◌∷◌, ◌∙◌, [], true, false, sym, ap, List, ℕ, append_assoc}
use Rattle.std.proofs.lemmas.List.{append-nil}
use Rattle.hrt_text.specs.Text.{tokens}
use Rattle.rank_tables.specs.Names.{is_among, are_apart}
use Rattle.hrt_text.specs.Grammar.{words}
use Rattle.hrt_text.specs.Views.{texts, view_token}
use Rattle.hrt_text.specs.declared.tokens.Token.{Token as CodeToken}
use Rattle.hrt_text.proofs.OpenGroup.{stands_twice, distinct_push, among_from, not_among_from}
use Rattle.hrt_text.proofs.items.are_distinct.Goals as goal

pub returns-then-not-fresh : goal.returns-then-not-fresh
returns-then-not-fresh c =
    let word : List ℕ = c.in-Word.word.now in
    let before : List (List ℕ) = texts c.loop-token.seen.keys in
    let more : List (List ℕ) = words (tokens c.in-Some.after.now) in
    let step : words (tokens c.loop-token.rest.now) ≡ word ∷ more = ap words c.in-Some.ensures.some ∙ ap (λ (t : CodeToken). words (view_token t ∷ tokens c.in-Some.after.now)) c.in-Word.is in
    let among : is_among word before ≡ true = among_from _ _ c.if-not-fresh.true c.in_ok-fresh.ensures.fresh in
    sym (c.loop-token.invariant.whole ∙ ap (λ (ws : List (List ℕ)). are_apart (before ++ ws)) step ∙ stands_twice before word more among)

pub returns : goal.returns
returns c =
    let before : List (List ℕ) = texts c.loop-token.seen.keys in
    let none : words (tokens c.loop-token.rest.now) ≡ [] = ap words c.in_default.ensures.none in
    sym (c.loop-token.invariant.whole ∙ ap (λ (ws : List (List ℕ)). are_apart (before ++ ws)) none ∙ ap are_apart (append-nil before) ∙ c.loop-token.invariant.apart)

pub loop-token-preserved-else-not-fresh : goal.loop-token-preserved-else-not-fresh
loop-token-preserved-else-not-fresh c =
    let word : List ℕ = c.in-Word.word.now in
    let before : List (List ℕ) = texts c.loop-token.seen.keys in
    let more : List (List ℕ) = words (tokens c.in-Some.after.now) in
    let step : words (tokens c.loop-token.rest.now) ≡ word ∷ more = ap words c.in-Some.ensures.some ∙ ap (λ (t : CodeToken). words (view_token t ∷ tokens c.in-Some.after.now)) c.in-Word.is in
    let new : is_among word before ≡ false = not_among_from _ _ c.if-not-fresh.false c.in_ok-fresh.ensures.fresh in
    let added = c.in_ok-fresh.ensures.added c.if-not-fresh.false in
    record {
      whole = c.loop-token.invariant.whole ∙ ap (λ (ws : List (List ℕ)). are_apart (before ++ ws)) step ∙ ap are_apart (sym (append_assoc before (word ∷ []) more)) ∙ ap (λ (ts : List (List ℕ)). are_apart (ts ++ more)) (sym added);
      apart = ap are_apart added ∙ distinct_push before word c.loop-token.invariant.apart new;
    }
