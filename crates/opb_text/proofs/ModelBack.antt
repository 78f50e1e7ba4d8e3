-- The text of a model is a spelling of the model's formula.
use Rattle.std.proofs.Common.{◌≡◌, ◌∙◌, ℕ, zero, suc, ◌+◌, ◌*◌, ◌^◌, ◌≤◌, ◌==◌, nat_le, Bool, true, false, List, [], ◌∷◌, ◌++◌, length, map, filter, ℤ, pos, neg_ℤ, ◌-ℤ◌, refl, sym, ap, ap₂, subst, arith, if◌then◌else◌}
use Rattle.std.specs.Prelude.{flat_map, slice_get, unwrap_or, option_map}
use Rattle.std.specs.Int.RustNames.{unsigned_abs}
use Rattle.std.specs.List.{All, AllByRecursion}
use Rattle.std.proofs.lemmas.List.Elements.{recursion_from_All}
use Rattle.std.proofs.lemmas.Bool.{and_parts, leb-true}
use Rattle.std.proofs.lemmas.Int.{ints}
use Rattle.std.proofs.lemmas.List.{length-map, map-append}
use Rattle.std.proofs.lemmas.List.Sums.{count_by-le-length, length-filter}
use Rattle.hrt_base.specs.declared.literal.Term.{Term}
use Rattle.pb_rows.specs.Terms.{PlainRow, Written}
use Rattle.pb_rows.specs.Points.{IsCovered}
use Rattle.pb_rows.specs.Normal.{all_sizes, on_opposites, sizes}
use Rattle.pb_rows.specs.Rows.{in_normal_form}
use Rattle.pb_rows.specs.Formula.{Formula}
use Rattle.rank_tables.specs.declared.draft.DraftHospital.{DraftHospital}
use Rattle.rank_tables.specs.Numbers.{below, numbers_to}
use Rattle.rank_tables.specs.Instance.{Lists, capacity_of, pair_at, pair_count}
use Rattle.rank_tables.specs.WellFormed.{IsWellFormed, most_capacity, most_pairs}
use Rattle.rank_tables.proofs.Below.{length-numbers_to}
use Rattle.row_text.proofs.RowBack.{AllMade}
use Rattle.rank_tables.specs.Terms.{is_as_good_for_hospital, is_as_good_for_resident}
use Rattle.stability_model.specs.Model.{formula, hospital_has_pair, hospital_row, hospital_rows, objective, pair_row, resident_has_pair, resident_row, resident_rows, rows, stability_coef, term, written_rows}
use Rattle.stability_model.proofs.ShortRows.{IsModelRow, minus_sizes, objective_over, written_fine}
use Rattle.opb_text.specs.Limits.{most_variables}
use Rattle.opb_text.specs.Refusal.{Spells}
use Rattle.opb_text.specs.Spelling.{canonical, header_line, model_text, objective_line, row_line}
use Rattle.opb_text.specs.Statements.{greatest_variable}
use Rattle.opb_text.proofs.CanonicalRows.{canonical_over, canonical_same, canonical_sizes}
use Rattle.opb_text.proofs.SpelledFormula.{IsFineObjective, IsFineRow, all_terms, spells}
use Rattle.opb_text.proofs.SpelledLines.{spelling_of}
use Rattle.opb_text.proofs.Variables.{greatest-append}
use Rattle.opb_text.proofs.Within.{rows_few}

-- ---- variables

made_over : (n : ℕ) (ts : List Term) → n ≤ most_variables → All (λ (t : Term). IsCovered n t.lit.var) ts → AllMade ts × (greatest_variable ts ≤ n)
made_over n [] h over = (tt, omega arith)
made_over n (t ∷ ts) h over =
    let here : IsCovered n t.lit.var = over 0 t (omega arith) in
    let later = made_over n ts h (λ k d l. over (suc k) d (omega arith)) in
    let first = here.first in
    let last = here.last in
    ((record { low = omega arith; high = omega arith }, later.0), omega (arith, later.1))

-- ---- as they are spelled

no_less : (z o : ℤ) → o ≡ pos 0 → unsigned_abs (z -ℤ o) ≡ unsigned_abs z
no_less z o e = let same : z -ℤ o ≡ z = omega (arith, ints) in ap unsigned_abs same

spelled_fine : (n : ℕ) (row : Written) → n ≤ most_pairs → IsModelRow n row → IsFineRow (canonical row) × (greatest_variable (canonical row).terms ≤ n)
spelled_fine n row few h =
    let m = made_over n (canonical row).terms few (canonical_over n row h.over) in (
      record {
        made = m.0;
        light = omega (arith, canonical_sizes row, no_less row.at_least (on_opposites row.terms) h.none, h.light);
        few = omega (arith, m.1);
      },
      m.1,
    )

all_spelled_fine : (n : ℕ) (rows : List Written) → n ≤ most_pairs → AllByRecursion (IsModelRow n) rows
    → AllByRecursion IsFineRow (map canonical rows) × (greatest_variable (flat_map (λ (row : Written). row.terms) (map canonical rows)) ≤ n)
all_spelled_fine n [] few h = (tt, omega arith)
all_spelled_fine n (row ∷ rows) few h =
    let here = spelled_fine n row few h.0 in
    let later = all_spelled_fine n rows few h.1 in
    ((here.0, later.0), omega (arith, here.1, later.1, greatest-append (canonical row).terms (flat_map (λ (r : Written). r.terms) (map canonical rows))))

same_meaning : (n : ℕ) (rows : List Written) → AllByRecursion (IsModelRow n) rows → map in_normal_form (map canonical rows) ≡ map in_normal_form rows
same_meaning n [] h = refl
same_meaning n (row ∷ rows) h = ap₂ (λ (r : PlainRow) (rs : List PlainRow). r ∷ rs) (canonical_same row h.0.none) (same_meaning n rows h.1)

lines_by : (rows : List Written) → flat_map (λ row. row_line (canonical row)) rows ≡ flat_map row_line (map canonical rows)
lines_by [] = refl
lines_by (row ∷ rows) = ap (λ (l : List ℕ). row_line (canonical row) ++ l) (lines_by rows)

-- ---- the objective

greatest_pair : (n : ℕ) → greatest_variable (map (λ p. term (neg_ℤ (pos 1)) p) (numbers_to n)) ≡ n
greatest_pair zero = refl
greatest_pair (suc n) =
    let f : ℕ → Term = λ p. term (neg_ℤ (pos 1)) p in
    let apart = ap greatest_variable (map-append f (numbers_to n) (suc n ∷ [])) ∙ greatest-append (map f (numbers_to n)) (f (suc n) ∷ []) in
    omega (arith, apart, greatest_pair n)

objective_is_fine : (lists : Lists) → pair_count lists ≤ most_pairs → IsFineObjective (objective lists)
objective_is_fine lists few =
    let n : ℕ = pair_count lists in
    let m = made_over n (objective lists) few (objective_over lists) in
    record { made = m.0; light = omega (arith, minus_sizes (numbers_to n), length-numbers_to n); few = omega (arith, m.1) }

-- ---- the text

made : ℕ → List Term → List PlainRow → Formula
made vars terms rows = record { vars = vars; objective = terms; rows = rows }

pub model_back : (lists : Lists) → IsWellFormed lists → pair_count lists ≤ most_pairs → Spells (model_text lists) (formula lists)
unfolding model_text made
model_back lists well few =
    let n : ℕ = pair_count lists in
    let spelled : List Written = map canonical (written_rows lists) in
    let fine = recursion_from_All (IsModelRow n) (written_rows lists) (written_fine lists well few) in
    let rows_fine = all_spelled_fine n (written_rows lists) few fine in
    let count : length (written_rows lists) ≡ length (rows lists) = sym (length-map (written_rows lists) in_normal_form) in
    let count_spelled : length spelled ≡ length (written_rows lists) = length-map (written_rows lists) canonical in
    let text : model_text lists ≡ spelling_of n (length (written_rows lists)) (objective lists) spelled =
    ap (λ (l : List ℕ). header_line n (length (written_rows lists)) ++ (objective_line (objective lists) ++ l)) (lines_by (written_rows lists)) in
    let back = spells n (length (written_rows lists)) (objective lists) spelled (omega arith) (omega (arith, count, rows_few lists)) (objective_is_fine lists few) rows_fine.0 (omega (arith, count, count_spelled, rows_few lists)) in
    let vars : greatest_variable (all_terms (objective lists) spelled) ≡ n =
    let parts = greatest-append (objective lists) (flat_map (λ (row : Written). row.terms) spelled) in omega (arith, parts, greatest_pair n, rows_fine.1) in
    let is : made (greatest_variable (all_terms (objective lists) spelled)) (objective lists) (map in_normal_form spelled) ≡ formula lists =
    ap₂ (λ (v : ℕ) (rs : List PlainRow). made v (objective lists) rs) vars (same_meaning n (written_rows lists) fine) in
    subst (λ (t : List ℕ). Spells t (formula lists)) (sym text) (subst (λ (f : Formula). Spells (spelling_of n (length (written_rows lists)) (objective lists) spelled) f) is back)
