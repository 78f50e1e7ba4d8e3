-- The terms that an instance counts are those of the rows.
use Rattle.std.proofs.Common.{◌≡◌, ℕ, ◌+◌, Bool, true, false, ◌&&◌, ◌||◌, List, [], ◌∷◌, ◌++◌, ◌==◌, nat_lt, if◌then◌else◌, filter, map, sum_by, count_by, length, refl, sym, ap, ◌∙◌, arith}
use Rattle.std.proofs.lemmas.Bool.{lt-ltb}
use Rattle.std.proofs.lemmas.List.{length-map}
use Rattle.std.proofs.lemmas.List.Sums.{length-filter, sum_by-append, sum_by-cons}
use Rattle.hrt_base.specs.declared.literal.Term.{Term}
use Rattle.rank_tables.specs.Numbers.{below, numbers_to}
use Rattle.rank_tables.specs.Instance.{Lists, capacity_of, pair_at, pair_count, rising_pairs_of_hospital, pairs_of_resident}
use Rattle.rank_tables.specs.Terms.{has_term, is_as_good_for_hospital, is_as_good_for_resident, model_terms}
use Rattle.stability_model.specs.Model.{at_most, has_any, hospital_rows, pair_row, resident_rows, stability_coef, term_count, written_rows}
use Rattle.rank_tables.proofs.Numbers.{sum_by-filter, sum_by_same}

sum_by-map : {A B : Type 0} (f : B → ℕ) (g : A → B) (xs : List A) → sum_by f (map g xs) ≡ sum_by (λ x. f (g x)) xs
sum_by-map f g [] = refl
sum_by-map f g (x ∷ xs) = sum_by-cons f (g x) (map g xs) ∙ ap (λ n. f (g x) + n) (sum_by-map f g xs) ∙ sym (sum_by-cons (λ x. f (g x)) x xs)

-- rows that are left out have no terms
at_most_terms : (c : ℕ → ℕ) (pairs : ℕ → List ℕ) (n : ℕ) → sum_by term_count (map (λ k. at_most (c k) (pairs k)) (filter (λ k. has_any (pairs k)) (below n))) ≡ sum_by (λ k. length (pairs k)) (below n)
at_most_terms c pairs n =
    sum_by-map term_count (λ k. at_most (c k) (pairs k)) (filter (λ k. has_any (pairs k)) (below n))
    ∙ sum_by-filter (λ k. term_count (at_most (c k) (pairs k))) (λ k. has_any (pairs k)) (below n)
    ∙ sum_by_same _ _ (below n) (λ k. one _ (pairs k))
  where
    one : (f : ℕ → Term) (ps : List ℕ) → (if has_any ps then length (map f ps) else 0) ≡ length ps
    one f [] = refl
    one f (p ∷ ps) = length-map (p ∷ ps) f

has_step : (e a b : Bool) (c : ℕ) → nat_lt 0 (if e then c + 1 else if a then c else if b then 1 else 0) ≡ (e || (if a then nat_lt 0 c else b))
has_step true a b c = lt-ltb 0 (c + 1) (omega arith)
has_step false true b c = refl
has_step false false true c = refl
has_step false false false c = refl

pair_terms_count : (lists : Lists) (p : ℕ) → term_count (pair_row lists p) ≡ count_by (has_term lists p) (numbers_to (pair_count lists))
pair_terms_count lists p =
    let ns : List ℕ = numbers_to (pair_count lists) in
    length-map (filter (λ q. nat_lt 0 (stability_coef lists p q)) ns) _
    ∙ length-filter (λ q. nat_lt 0 (stability_coef lists p q)) ns
    ∙ sum_by_same _ _ ns (λ q. ap (λ b. if b then 1 else 0) (has_step (q == p)
    (is_as_good_for_resident lists p q) (is_as_good_for_hospital lists p q) (capacity_of lists (pair_at lists p).hospital)))

pub terms_counted : (lists : Lists) → model_terms lists ≡ sum_by term_count (written_rows lists)
terms_counted lists =
    let ns : List ℕ = numbers_to (pair_count lists) in
    let pairs_part : sum_by term_count (map (pair_row lists) ns) ≡ sum_by (λ p. count_by (has_term lists p) ns) ns = sum_by-map term_count (pair_row lists) ns ∙ sum_by_same _ _ ns (pair_terms_count lists) in
    omega (
      arith,
      sum_by-append term_count (resident_rows lists ++ hospital_rows lists) (map (pair_row lists) ns),
      sum_by-append term_count (resident_rows lists) (hospital_rows lists),
      at_most_terms (λ r. 1) (pairs_of_resident lists) (length lists.residents),
      at_most_terms (capacity_of lists) (rising_pairs_of_hospital lists) (length lists.hospitals),
      pairs_part,
    )
