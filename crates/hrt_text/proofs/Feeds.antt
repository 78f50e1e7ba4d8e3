-- How many lines a text has: at most one more than it has line feeds.
use Rattle.std.proofs.Common.{◌≡◌, ℕ, ◌+◌, ◌≤◌, Bool, true, false, cond, eqb, List, [], ◌∷◌, length, sym, subst, arith}
use Rattle.std.specs.Prelude.{count_by}
use Rattle.std.specs.List.{onto_first}
use Rattle.std.proofs.lemmas.List.{length-map}
use Rattle.std.proofs.lemmas.List.Sums.{sum_by-cons}
use Rattle.hrt_text.specs.Text.{parts, without_return, lines, tokens, rows}

onto_first_few : (b : ℕ) (ls : List (List ℕ)) (n : ℕ) → length ls ≤ n + 1 → length (onto_first b ls) ≤ n + 1
onto_first_few b [] n h = omega arith
onto_first_few b (l ∷ ls) n h = h

one_more : (b : ℕ) (t : Bool) (ls : List (List ℕ)) (n : ℕ) → length ls ≤ n + 1 → length (cond t ([] ∷ ls) (onto_first b ls)) ≤ (cond t 1 0 + n) + 1
one_more b true ls n h = omega arith
one_more b false ls n h = let few = onto_first_few b ls n h in omega arith

parts_few : (bytes : List ℕ) → length (parts bytes) ≤ count_by (λ b. eqb b 10) bytes + 1
parts_few [] = omega arith
parts_few (b ∷ bytes) =
    let more : count_by (λ c. eqb c 10) (b ∷ bytes) ≡ cond (eqb b 10) 1 0 + count_by (λ c. eqb c 10) bytes = sum_by-cons (λ (c : ℕ). cond (eqb c 10) 1 0) b bytes in
    let few : length (parts (b ∷ bytes)) ≤ (cond (eqb b 10) 1 0 + count_by (λ c. eqb c 10) bytes) + 1 =
    one_more b (eqb b 10) (parts bytes) (count_by (λ c. eqb c 10) bytes) (parts_few bytes) in
    subst (λ (n : ℕ). length (parts (b ∷ bytes)) ≤ n + 1) (sym more) few

pub rows_few : (bytes : List ℕ) → length (rows bytes) ≤ count_by (λ b. eqb b 10) bytes + 1
rows_few bytes =
    omega (arith, length-map (lines bytes) tokens, length-map (parts bytes) without_return, parts_few bytes)
