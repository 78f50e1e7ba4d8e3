-- The text of a model by its parts.
use Rattle.std.proofs.Common.{◌≡◌, ◌∙◌, ℕ, zero, suc, ◌-◌, Bool, true, false, cond, nat_lt, if◌then◌else◌, List, [], ◌∷◌, ◌++◌, length, map, filter, Option, Some, None, ℤ, pos, neg_ℤ, ◌+ℤ◌, ◌-ℤ◌, refl, sym, ap, ap₂, append_assoc, arith}
use Rattle.std.specs.Prelude.{flat_map, slice_get}
use Rattle.std.proofs.lemmas.Int.{ints}
use Rattle.std.proofs.lemmas.List.{append-nil, length-map, map-append}
use Rattle.std.proofs.lemmas.List.Concat.{flat_map-append}
use Rattle.std.proofs.lemmas.List.Elements.{filter-append}
use Rattle.pb_rows.specs.Terms.{PlainRow, Written}
use Rattle.pb_rows.specs.Normal.{on_opposites}
use Rattle.pb_rows.specs.Rows.{in_normal_form}
use Rattle.rank_tables.specs.Numbers.{below, numbers_to}
use Rattle.rank_tables.specs.Instance.{Lists, capacity_of, pair_at, pair_count, rising_pairs_of_hospital, pairs_of_resident}
use Rattle.stability_model.specs.Model.{IsRow, hospital_has_pair, hospital_row, hospital_row_no, hospital_rows, objective, pair_row, resident_has_pair, resident_row, resident_row_no, resident_rows, rows, stability_coef, term, written_rows}
use Rattle.stability_model.proofs.CoefRows.{over-opposites}
use Rattle.opb_text.specs.Spelling.{canonical, header_line, model_text, objective_line, row_line, written_with}
use Rattle.opb_text.specs.Sending.{hospital_line, hospital_lines, lines_to, pair_line, pair_lines, resident_line, resident_lines}

as_written : (z o : ℤ) → o ≡ pos 0 → z -ℤ o ≡ z
as_written z o e = omega (arith, ints)

-- ---- the parts

some_lines : (line : Written → List ℕ) (row : ℕ → Written) (has : ℕ → Bool) (n : ℕ)
    → flat_map line (map row (filter has (below n))) ≡ lines_to (λ k. if has k then line (row k) else []) n
some_lines line row has zero = refl
some_lines line row has (suc n) =
    let last : List ℕ = cond (has n) (n ∷ []) [] in
    ap (λ (ks : List ℕ). flat_map line (map row ks)) (filter-append has (below n) (n ∷ []))
    ∙ ap (flat_map line) (map-append row (filter has (below n)) last)
    ∙ flat_map-append line (map row (filter has (below n))) (map row last)
    ∙ ap₂ (λ (a b : List ℕ). a ++ b) (some_lines line row has n) (one (has n))
  where
    one : (b : Bool) → flat_map line (map row (cond b (n ∷ []) [])) ≡ (if b then line (row n) else [])
    one true = append-nil (line (row n))
    one false = refl

all_lines : (line : Written → List ℕ) (row : ℕ → Written) (n : ℕ) → flat_map line (map row (numbers_to n)) ≡ lines_to (λ k. line (row (suc k))) n
all_lines line row zero = refl
all_lines line row (suc n) =
    ap (flat_map line) (map-append row (numbers_to n) (suc n ∷ []))
    ∙ flat_map-append line (map row (numbers_to n)) (row (suc n) ∷ [])
    ∙ ap₂ (λ (a b : List ℕ). a ++ b) (all_lines line row n) (append-nil (line (row (suc n))))

pub text_parts : (lists : Lists) → model_text lists ≡
    header_line (pair_count lists) (length (rows lists)) ++ (objective_line (objective lists)
    ++ (resident_lines lists (length lists.residents) ++ (hospital_lines lists (length lists.hospitals) ++ pair_lines lists (pair_count lists))))
unfolding model_text
text_parts lists =
    let line : Written → List ℕ = λ row. row_line (canonical row) in
    let residents : List Written = resident_rows lists in
    let hospitals : List Written = hospital_rows lists in
    let pairs : List Written = map (pair_row lists) (numbers_to (pair_count lists)) in
    let rows_part : flat_map line (written_rows lists) ≡ resident_lines lists (length lists.residents) ++ (hospital_lines lists (length lists.hospitals) ++ pair_lines lists (pair_count lists)) =
    flat_map-append line (residents ++ hospitals) pairs
    ∙ ap₂ (λ (a b : List ℕ). a ++ b) (flat_map-append line residents hospitals) (all_lines line (pair_row lists) (pair_count lists))
    ∙ append_assoc (flat_map line residents) (flat_map line hospitals) (pair_lines lists (pair_count lists))
    ∙ ap₂ (λ (a b : List ℕ). a ++ (b ++ pair_lines lists (pair_count lists)))
    (some_lines line (resident_row lists) (resident_has_pair lists) (length lists.residents)) (some_lines line (hospital_row lists) (hospital_has_pair lists) (length lists.hospitals)) in
    ap₂ (λ (n : ℕ) (text : List ℕ). header_line (pair_count lists) n ++ (objective_line (objective lists) ++ text)) (sym (length-map (written_rows lists) in_normal_form)) rows_part

-- ---- a row that the model gave is the one that is spelled

same_row : (made row : PlainRow) (o : Option PlainRow) → o ≡ Some made → o ≡ Some row → made ≡ row
same_row made row o e f = cc

spelled : (z : ℤ) (made : PlainRow) (row : Written) → made ≡ in_normal_form row → on_opposites row.terms ≡ pos 0 → z ≡ row.at_least → row_line (written_with z made) ≡ row_line (canonical row)
spelled z made row e o f = ap₂ (λ (y : ℤ) (r : PlainRow). row_line (written_with y r)) (f ∙ sym (as_written row.at_least (on_opposites row.terms) o)) e

if_any : (b : Bool) (n k : ℕ) → Some k ≡ (if b then Some n else None) → b ≡ true
if_any true n k e = refl
if_any false n k e = absurd (cc e)

minus : ℕ → ℤ
minus p = neg_ℤ (pos 1)

pub resident_spelled : (lists : Lists) (r k : ℕ) (made : PlainRow) (z : ℤ) → Some k ≡ resident_row_no lists r → slice_get (rows lists) (k - 1) ≡ Some made → IsRow lists k (resident_row lists r) → z ≡ neg_ℤ (pos 1)
    → row_line (written_with z made) ≡ resident_line lists r
unfolding minus
resident_spelled lists r k made z number at is value =
    let row : Written = resident_row lists r in
    spelled z made row (same_row made (in_normal_form row) _ at is) (over-opposites minus (pairs_of_resident lists r)) value
    ∙ sym (ap (λ b. if b then row_line (canonical row) else []) (if_any (resident_has_pair lists r) _ k number))

pub hospital_spelled : (lists : Lists) (h k : ℕ) (made : PlainRow) (z : ℤ) → Some k ≡ hospital_row_no lists h → slice_get (rows lists) (k - 1) ≡ Some made → IsRow lists k (hospital_row lists h) → z ≡ neg_ℤ (pos (capacity_of lists h))
    → row_line (written_with z made) ≡ hospital_line lists h
unfolding minus
hospital_spelled lists h k made z number at is value =
    let row : Written = hospital_row lists h in
    spelled z made row (same_row made (in_normal_form row) _ at is) (over-opposites minus (rising_pairs_of_hospital lists h)) value
    ∙ sym (ap (λ b. if b then row_line (canonical row) else []) (if_any (hospital_has_pair lists h) _ k number))

pub pair_spelled : (lists : Lists) (p k : ℕ) (made : PlainRow) (z : ℤ) → slice_get (rows lists) (k - 1) ≡ Some made → IsRow lists k (pair_row lists p) → z ≡ pos (capacity_of lists (pair_at lists p).hospital)
    → row_line (written_with z made) ≡ pair_line lists p
pair_spelled lists p k made z at is value =
    let row : Written = pair_row lists p in
    spelled z made row (same_row made (in_normal_form row) _ at is) (over-opposites (λ q. pos (stability_coef lists p q)) (filter (λ q. nat_lt 0 (stability_coef lists p q)) (numbers_to (pair_count lists)))) value
