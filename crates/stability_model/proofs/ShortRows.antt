-- Each row of the model is over the pairs' variables, and its numbers are short.
use Rattle.std.proofs.Common.{◌≡◌, ℕ, zero, suc, ◌+◌, ◌*◌, ◌^◌, ◌≤◌, ◌==◌, nat_le, Bool, true, false, List, [], ◌∷◌, ◌++◌, length, map, filter, get_or, ℤ, pos, neg_ℤ, refl, sym, subst, arith, if◌then◌else◌}
use Rattle.std.specs.Prelude.{slice_get, unwrap_or, option_map}
use Rattle.std.specs.Int.RustNames.{unsigned_abs}
use Rattle.std.specs.List.{All, list_all}
use Rattle.std.proofs.lemmas.Bool.{and_parts, leb-true}
use Rattle.std.proofs.lemmas.List.Elements.{All-append, All-filter, All-map, All-nil, All-push}
use Rattle.std.proofs.lemmas.List.Sums.{count_by-le-length, length-filter}
use Rattle.hrt_base.specs.declared.literal.Term.{Term}
use Rattle.pb_rows.specs.Terms.{PlainRow, Written}
use Rattle.pb_rows.specs.Points.{IsCovered}
use Rattle.pb_rows.specs.Normal.{all_sizes, normal_form, on_opposites, sizes}
use Rattle.pb_rows.specs.Rows.{in_normal_form}
use Rattle.pb_rows.proofs.Covers.{normal_form_over}
use Rattle.pb_rows.proofs.NormalSizes.{fits-normal_form, normal_form-degree, normal_form-rises, normal_form-sum}
use Rattle.rank_tables.specs.declared.draft.DraftHospital.{DraftHospital}
use Rattle.rank_tables.specs.Numbers.{below, numbers_to}
use Rattle.rank_tables.specs.Instance.{Lists, capacity_of, pair_at, pair_count}
use Rattle.rank_tables.specs.Terms.{is_as_good_for_hospital, is_as_good_for_resident}
use Rattle.rank_tables.specs.WellFormed.{IsWellFormed, most_capacity, most_pairs}
use Rattle.rank_tables.proofs.Below.{length-numbers_to}
use Rattle.stability_model.specs.Model.{AreShortRows, IsShortRow, ModelRowsAreShort, hospital_has_pair, hospital_row, hospital_rows, objective, pair_row, resident_has_pair, resident_row, resident_rows, rows, stability_coef, term, written_rows}
use Rattle.stability_model.proofs.CoefRows.{over, over-opposites}

-- ---- variables

pub numbers_covered : (n m : ℕ) → n ≤ m → All (IsCovered m) (numbers_to n)
numbers_covered zero m h = All-nil (IsCovered m)
numbers_covered (suc n) m h = All-push (IsCovered m) (numbers_to n) (suc n) (numbers_covered n m (omega arith)) (record { first = omega arith; last = h })

pub terms_over : (n : ℕ) (f : ℕ → ℤ) (ps : List ℕ) → All (IsCovered n) ps → All (λ (t : Term). IsCovered n t.lit.var) (over f ps)
terms_over n f ps h = All-map (λ (t : Term). IsCovered n t.lit.var) (λ p. term (f p) p) ps h

-- ---- rows that are short

-- the normal form of light terms
pub short_form : (n : ℕ) (ts : List Term) (at_least : ℤ) → All (λ (t : Term). IsCovered n t.lit.var) ts → all_sizes ts at_least ≤ 2 ^ 60 → IsShortRow n (normal_form ts at_least)
short_form n ts at_least covered light = record {
  over = normal_form_over (IsCovered n) ts at_least covered;
  formed = normal_form-rises ts at_least (fits-normal_form ts at_least (omega (arith, light)));
  short = record { sum = omega (arith, light, normal_form-sum ts at_least); degree = omega (arith, light, normal_form-degree ts at_least) };
}

-- ---- rows as they are written

-- what each row is, as it is written
pub record IsModelRow (n : ℕ) (row : Written) : Type 0 where
  pub over : All (λ (t : Term). IsCovered n t.lit.var) row.terms
  pub none : on_opposites row.terms ≡ pos 0
  pub light : all_sizes row.terms row.at_least ≤ 2 ^ 40

sizes_by : (f : ℕ → ℤ) (ps : List ℕ) → ((p : ℕ) → unsigned_abs (f p) ≤ 20001) → sizes (map (λ p. term (f p) p) ps) ≤ length ps * 20001
sizes_by f [] h = omega arith
sizes_by f (p ∷ ps) h = omega (arith, h p, sizes_by f ps h)

filter_few : (test : ℕ → Bool) (n : ℕ) → length (filter test (numbers_to n)) ≤ n
filter_few test n = omega (arith, length-filter test (numbers_to n), count_by-le-length test (numbers_to n), length-numbers_to n)

model_row : (n : ℕ) (f : ℕ → ℤ) (test : ℕ → Bool) (at_least : ℤ) → n ≤ most_pairs → ((p : ℕ) → unsigned_abs (f p) ≤ 20001) → unsigned_abs at_least ≤ 20000
    → IsModelRow n (record { terms = map (λ p. term (f p) p) (filter test (numbers_to n)); at_least = at_least })
model_row n f test at_least few small right = record {
  over = terms_over n f (filter test (numbers_to n)) (All-filter test (IsCovered n) (numbers_to n) (numbers_covered n n (omega arith)));
  none = over-opposites f (filter test (numbers_to n));
  light = omega (arith, sizes_by f (filter test (numbers_to n)) small, filter_few test n, right);
}

posts_by : (hs : List DraftHospital) (h : ℕ) → list_all (λ (d : DraftHospital). nat_le d.capacity most_capacity) hs ≡ true
    → unwrap_or (option_map (λ (d : DraftHospital). d.capacity) (slice_get hs h)) 0 ≤ most_capacity
posts_by [] h all = omega arith
posts_by (d ∷ hs) zero all = leb-true d.capacity most_capacity (and_parts (nat_le d.capacity most_capacity) _ all).0
posts_by (d ∷ hs) (suc h) all = posts_by hs h (and_parts (nat_le d.capacity most_capacity) _ all).1

minus_size : (c : ℕ) → unsigned_abs (neg_ℤ (pos c)) ≡ c
minus_size zero = refl
minus_size (suc c) = refl

coef_by : (own resident hospital : Bool) (c : ℕ) → c ≤ 20000 → (if own then c + 1 else if resident then c else if hospital then 1 else 0) ≤ 20001
coef_by true resident hospital c h = omega arith
coef_by false true hospital c h = omega arith
coef_by false false true c h = omega arith
coef_by false false false c h = omega arith

module _ (lists : Lists) (well : IsWellFormed lists) (few : pair_count lists ≤ most_pairs) where
  posts_few : (h : ℕ) → capacity_of lists h ≤ most_capacity
  posts_few h = posts_by lists.hospitals h well.capacities

  resident_fine : (r : ℕ) → IsModelRow (pair_count lists) (resident_row lists r)
  resident_fine r = model_row (pair_count lists) (λ p. neg_ℤ (pos 1)) _ (neg_ℤ (pos 1)) few (λ p. omega arith) (omega arith)

  hospital_fine : (h : ℕ) → IsModelRow (pair_count lists) (hospital_row lists h)
  hospital_fine h =
      model_row (pair_count lists) (λ p. neg_ℤ (pos 1)) _ (neg_ℤ (pos (capacity_of lists h))) few (λ p. omega arith) (omega (arith, minus_size (capacity_of lists h), posts_few h))

  pair_fine : (p : ℕ) → IsModelRow (pair_count lists) (pair_row lists p)
  pair_fine p =
      let posts : ℕ = capacity_of lists (pair_at lists p).hospital in
      model_row (pair_count lists) (λ q. pos (stability_coef lists p q)) _ (pos posts) few
      (λ q. coef_by (q == p) (is_as_good_for_resident lists p q) (is_as_good_for_hospital lists p q) posts (posts_few (pair_at lists p).hospital))
      (posts_few (pair_at lists p).hospital)

  each : (row : ℕ → Written) (ks : List ℕ) → ((k : ℕ) → IsModelRow (pair_count lists) (row k)) → All (IsModelRow (pair_count lists)) (map row ks)
  each row ks h = All-map (IsModelRow (pair_count lists)) row ks (λ k d l. h (get_or ks k d))

  pub written_fine : All (IsModelRow (pair_count lists)) (written_rows lists)
  written_fine =
      All-append (IsModelRow (pair_count lists)) (resident_rows lists ++ hospital_rows lists) (map (pair_row lists) (numbers_to (pair_count lists)))
      (All-append (IsModelRow (pair_count lists)) (resident_rows lists) (hospital_rows lists)
      (each (resident_row lists) (filter (resident_has_pair lists) (below (length lists.residents))) resident_fine)
      (each (hospital_row lists) (filter (hospital_has_pair lists) (below (length lists.hospitals))) hospital_fine))
      (each (pair_row lists) (numbers_to (pair_count lists)) pair_fine)

  pub rows_short : All (IsShortRow (pair_count lists)) (rows lists)
  rows_short = All-map (IsShortRow (pair_count lists)) in_normal_form (written_rows lists) (λ k d l.
      let row : Written = get_or (written_rows lists) k d in
      let fine : IsModelRow (pair_count lists) row = written_fine k d l in
      short_form (pair_count lists) row.terms row.at_least fine.over (omega (arith, fine.light)))

-- ---- rows of the objective

pub minus_sizes : (ps : List ℕ) → sizes (map (λ p. term (neg_ℤ (pos 1)) p) ps) ≡ length ps
minus_sizes [] = refl
minus_sizes (p ∷ ps) = omega (arith, minus_sizes ps)

pub objective_over : (lists : Lists) → All (λ (t : Term). IsCovered (pair_count lists) t.lit.var) (objective lists)
objective_over lists =
    terms_over (pair_count lists) (λ p. neg_ℤ (pos 1)) (numbers_to (pair_count lists)) (numbers_covered (pair_count lists) (pair_count lists) (omega arith))

-- with any right side of at most 2^59 the objective's terms are a short row
pub objective_short : (lists : Lists) (at_least : ℤ) → pair_count lists ≤ most_pairs → unsigned_abs at_least ≤ 2 ^ 59 → IsShortRow (pair_count lists) (normal_form (objective lists) at_least)
objective_short lists at_least few small =
    short_form (pair_count lists) (objective lists) at_least (objective_over lists) (omega (arith, minus_sizes (numbers_to (pair_count lists)), length-numbers_to (pair_count lists), few, small))

-- ---- as a model keeps them

pub model_rows_are_short : ModelRowsAreShort
model_rows_are_short = record { of_each = λ lists well few. record { each = rows_short lists well few } }

pub made_short : (lists : Lists) (made : List PlainRow) → made ≡ rows lists → IsWellFormed lists → pair_count lists ≤ most_pairs → AreShortRows (pair_count lists) made
made_short lists made e well few = record { each = subst (All (IsShortRow (pair_count lists))) (sym e) (rows_short lists well few) }
