-- The formula of a model is within the limits of formulas.
use Rattle.std.proofs.Common.{◌≡◌, ◌∙◌, ℕ, zero, suc, ◌+◌, ◌*◌, ◌≤◌, ◌==◌, nat_lt, cond, inl, inr, Bool, List, [], ◌∷◌, ◌++◌, length, map, filter, get_or, ℤ, pos, neg_ℤ, refl, ap, arith, length-append}
use Rattle.std.specs.List.{All}
use Rattle.std.proofs.lemmas.Bool.{cases_order, eq-eqb, le-ltb, lt-ltb, ne_eqb}
use Rattle.std.proofs.lemmas.List.{length-map}
use Rattle.std.proofs.lemmas.List.Elements.{All-append, All-filter, All-map, All-nil, All-push, filter-append}
use Rattle.std.proofs.lemmas.List.Sums.{count_by-le-length, length-filter}
use Rattle.hrt_base.specs.declared.literal.Term.{Term}
use Rattle.pb_rows.specs.Terms.{PlainRow, Written}
use Rattle.pb_rows.specs.Points.{IsCovered}
use Rattle.pb_rows.specs.Normal.{sizes}
use Rattle.pb_rows.specs.Rows.{in_normal_form}
use Rattle.pb_rows.proofs.Covers.{normal_form_over}
use Rattle.rank_tables.specs.Numbers.{below, numbers_to}
use Rattle.rank_tables.specs.Instance.{Lists, pair_at, pair_count, rising_pairs_of_hospital, pairs_of_resident}
use Rattle.rank_tables.specs.WellFormed.{most_pairs}
use Rattle.rank_tables.proofs.Below.{length-numbers_to}
use Rattle.stability_model.specs.Model.{formula, has_any, hospital_has_pair, hospital_row, hospital_rows, objective, pair_row, resident_has_pair, resident_row, resident_rows, rows, stability_coef, term, written_rows}
use Rattle.stability_model.proofs.ShortRows.{minus_sizes, numbers_covered, objective_over, terms_over}
use Rattle.opb_text.specs.Limits.{IsWithinLimits}

-- ---- variables

abbrev AreOver : ℕ → List Term → Type 0
AreOver n terms = All (λ (t : Term). IsCovered n t.lit.var) terms

some_covered : (n : ℕ) (test : ℕ → Bool) → All (IsCovered n) (filter test (numbers_to n))
some_covered n test = All-filter test (IsCovered n) (numbers_to n) (numbers_covered n n (omega arith))

abbrev IsOver : ℕ → Written → Type 0
IsOver n row = AreOver n row.terms

each_over : (n : ℕ) (row : ℕ → Written) (ks : List ℕ) → ((k : ℕ) → IsOver n (row k)) → All (IsOver n) (map row ks)
each_over n row ks h = All-map (IsOver n) row ks (λ k d l. h (get_or ks k d))

written_over : (lists : Lists) → All (IsOver (pair_count lists)) (written_rows lists)
written_over lists =
    let n : ℕ = pair_count lists in
    let minus : ℕ → ℤ = λ p. neg_ℤ (pos 1) in
    All-append (IsOver n) (resident_rows lists ++ hospital_rows lists) (map (pair_row lists) (numbers_to n))
    (All-append (IsOver n) (resident_rows lists) (hospital_rows lists)
    (each_over n (resident_row lists) (filter (resident_has_pair lists) (below (length lists.residents))) (λ r. terms_over n minus (pairs_of_resident lists r) (some_covered n _)))
    (each_over n (hospital_row lists) (filter (hospital_has_pair lists) (below (length lists.hospitals))) (λ h. terms_over n minus (rising_pairs_of_hospital lists h) (some_covered n _))))
    (each_over n (pair_row lists) (numbers_to n) (λ p. terms_over n (λ q. pos (stability_coef lists p q)) (filter _ (numbers_to n)) (some_covered n _)))

rows_over : (lists : Lists) → All (λ (r : PlainRow). AreOver (pair_count lists) r.terms) (rows lists)
rows_over lists =
    All-map (λ (r : PlainRow). AreOver (pair_count lists) r.terms) in_normal_form (written_rows lists)
    (λ k d l. let row : Written = get_or (written_rows lists) k d in normal_form_over (IsCovered (pair_count lists)) row.terms row.at_least (written_over lists k d l))

-- ---- counts

-- no more numbers have a pair than there are pairs
split_at : (f : ℕ → ℕ) (n : ℕ) (ps : List ℕ) → length (filter (λ p. nat_lt (f p) (suc n)) ps) ≡ length (filter (λ p. nat_lt (f p) n) ps) + length (filter (λ p. f p == n) ps)
split_at f n [] = refl
split_at f n (p ∷ ps) = elim (cases_order (f p) n) [
  | inl same ↦ rw (lt-ltb (f p) (suc n) (omega arith), le-ltb (f p) n (omega arith), eq-eqb (f p) n same) (omega (arith, split_at f n ps))
  | inr (inl less) ↦ rw (lt-ltb (f p) (suc n) (omega arith), lt-ltb (f p) n less, ne_eqb (f p) n (λ e. omega arith)) (omega (arith, split_at f n ps))
  | inr (inr more) ↦ rw (le-ltb (f p) (suc n) (omega arith), le-ltb (f p) n (omega arith), ne_eqb (f p) n (λ e. omega arith)) (omega (arith, split_at f n ps))
]

counted : (ps : List ℕ) (k : ℕ) → length (cond (has_any ps) (k ∷ []) []) ≤ length ps
counted [] k = omega arith
counted (p ∷ ps) k = omega arith

numbers_with : (f : ℕ → ℕ) (ps : List ℕ) (n : ℕ) → length (filter (λ k. has_any (filter (λ p. f p == k) ps)) (below n)) ≤ length (filter (λ p. nat_lt (f p) n) ps)
numbers_with f ps zero = omega arith
numbers_with f ps (suc n) =
    let has : ℕ → Bool = λ k. has_any (filter (λ p. f p == k) ps) in
    omega (
      arith,
      ap length (filter-append has (below n) (n ∷ [])),
      length-append (filter has (below n)) (cond (has n) (n ∷ []) []),
      counted (filter (λ p. f p == n) ps) n,
      numbers_with f ps n,
      split_at f n ps,
    )

some_few : (row : ℕ → Written) (f : ℕ → ℕ) (ps : List ℕ) (n : ℕ) → length (map row (filter (λ k. has_any (filter (λ p. f p == k) ps)) (below n))) ≤ length ps
some_few row f ps n =
    let test : ℕ → Bool = λ p. nat_lt (f p) n in
    omega (arith, length-map (filter (λ k. has_any (filter (λ p. f p == k) ps)) (below n)) row, numbers_with f ps n, length-filter test ps, count_by-le-length test ps)

pub rows_few : (lists : Lists) → length (rows lists) ≤ 3 * pair_count lists
rows_few lists =
    let ns : List ℕ = numbers_to (pair_count lists) in
    omega (
      arith,
      length-map (written_rows lists) in_normal_form,
      length-append (resident_rows lists ++ hospital_rows lists) (map (pair_row lists) ns),
      length-append (resident_rows lists) (hospital_rows lists),
      length-map ns (pair_row lists),
      length-numbers_to (pair_count lists),
      some_few (resident_row lists) (λ p. (pair_at lists p).resident) ns (length lists.residents),
      some_few (hospital_row lists) (λ p. (pair_at lists p).hospital) ns (length lists.hospitals),
    )

pub formula_within : (lists : Lists) → pair_count lists ≤ most_pairs → IsWithinLimits (formula lists)
formula_within lists few = record {
  few_variables = few;
  few_rows = omega (arith, rows_few lists, few);
  objective = objective_over lists;
  rows = rows_over lists;
  objective_sum = omega (arith, minus_sizes (numbers_to (pair_count lists)), length-numbers_to (pair_count lists), few);
}

-- a formula that was made part by part
pub is_formula : (lists : Lists) (vars : ℕ) (terms : List Term) (made : List PlainRow) → vars ≡ pair_count lists → terms ≡ objective lists → made ≡ rows lists
    → record { vars = vars; objective = terms; rows = made } ≡ formula lists
is_formula lists vars terms made e f g = λ i. record { vars = e i; objective = f i; rows = g i }
