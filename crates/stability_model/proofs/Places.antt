-- Where the rows of residents and of hospitals stand.
use Rattle.std.proofs.Common.{◌≡◌, ℕ, zero, suc, ◌+◌, ◌-◌, ◌<◌, Bool, true, if◌then◌else◌, List, [], ◌∷◌, ◌++◌, length, map, get_or, count_by, Option, Some, IfSome, inl, inr, sym, ap, ◌∙◌, subst, arith}
use Rattle.std.specs.Prelude.{slice_get}
use Rattle.std.proofs.lemmas.Bool.{cases_Bool, cases_lt}
use Rattle.std.proofs.lemmas.List.{get_or_append_left, get_or_push, length-append, length_push, map-append}
use Rattle.std.proofs.lemmas.Option.{slice_get-get_or}
use Rattle.pb_rows.specs.Terms.{PlainRow, Written}
use Rattle.pb_rows.specs.Rows.{in_normal_form}
use Rattle.rank_tables.specs.Numbers.{below, numbers_to}
use Rattle.rank_tables.specs.Instance.{Lists, pair_count}
use Rattle.stability_model.specs.Model.{IsRow, hospital_has_pair, hospital_row, hospital_row_no, hospital_rows, pair_row, resident_has_pair, resident_row, resident_row_no, resident_rows, rows}
use Rattle.stability_model.proofs.Growing.{rows_counted, rows_next, rows_to}

-- row number k of those that are there stands after the others and after those before it
pub record IsPlaced (before : List Written) (f : ℕ → Written) (has : ℕ → Bool) (n k : ℕ) (d : PlainRow) : Type 0 where
  pub within : length before + count_by has (below k) < length (rows_to before f has n)
  pub there : get_or (rows_to before f has n) (length before + count_by has (below k)) d ≡ in_normal_form (f k)

module _ (before : List Written) (f : ℕ → Written) (has : ℕ → Bool) (d : PlainRow) where
  last_placed : (n : ℕ) → has n ≡ true → IsPlaced before f has (suc n) n d
  last_placed n e =
      let old : List PlainRow = rows_to before f has n in
      let y : PlainRow = in_normal_form (f n) in
      let is : rows_to before f has (suc n) ≡ old ++ y ∷ [] = rows_next before f has n ∙ ap (λ b. old ++ (if b then y ∷ [] else [])) e in
      record {
        within = omega (arith, ap length is, length_push old y, rows_counted before f has n);
        there = ap (λ rs. get_or rs (length before + count_by has (below n)) d) is ∙ get_or_push old y d (length before + count_by has (below n)) (rows_counted before f has n);
      }

  still_placed : (n k : ℕ) → IsPlaced before f has n k d → IsPlaced before f has (suc n) k d
  still_placed n k p =
      let old : List PlainRow = rows_to before f has n in
      let more : List PlainRow = if has n then in_normal_form (f n) ∷ [] else [] in
      let place : ℕ = length before + count_by has (below k) in
      record {
        within = omega (arith, p.within, ap length (rows_next before f has n), length-append old more);
        there = ap (λ rs. get_or rs place d) (rows_next before f has n) ∙ get_or_append_left old more d place p.within ∙ p.there;
      }

  pub placed : (n k : ℕ) → k < n → has k ≡ true → IsPlaced before f has n k d
  placed zero k h e = absurd (omega arith)
  placed (suc n) k h e = elim (cases_lt k n) [
    | inl less ↦ still_placed n k (placed n k less e)
    | inr more ↦
        let same : n ≡ k = omega arith in
        subst (λ (j : ℕ). IsPlaced before f has (suc n) j d) same (last_placed n (subst (λ (j : ℕ). has j ≡ true) (sym same) e))
  ]

-- a row of the first rows is a row of all
front_row : (first rest : List Written) (i : ℕ) (row : Written) → i < length (map in_normal_form first) → get_or (map in_normal_form first) i (in_normal_form row) ≡ in_normal_form row →
    slice_get (map in_normal_form (first ++ rest)) i ≡ Some (in_normal_form row)
front_row first rest i row h e =
    let d : PlainRow = in_normal_form row in
    slice_get-get_or (map in_normal_form (first ++ rest)) i d (omega (arith, h, ap length (map-append in_normal_form first rest), length-append (map in_normal_form first) (map in_normal_form rest)))
    ∙ ap Some (ap (λ (rs : List PlainRow). get_or rs i d) (map-append in_normal_form first rest) ∙ get_or_append_left (map in_normal_form first) (map in_normal_form rest) d i h ∙ e)

module _ (lists : Lists) where
  is_hospital_row : (h : ℕ) → h < length lists.hospitals → hospital_has_pair lists h ≡ true → IsRow lists (length (resident_rows lists) + count_by (hospital_has_pair lists) (below h) + 1) (hospital_row lists h)
  is_hospital_row h l e =
      let p : IsPlaced (resident_rows lists) (hospital_row lists) (hospital_has_pair lists) (length lists.hospitals) h (in_normal_form (hospital_row lists h)) =
      placed (resident_rows lists) (hospital_row lists) (hospital_has_pair lists) (in_normal_form (hospital_row lists h)) (length lists.hospitals) h l e in
      let i : ℕ = length (resident_rows lists) + count_by (hospital_has_pair lists) (below h) in
      let back : i + 1 - 1 ≡ i = omega arith in
      ap (slice_get (rows lists)) back ∙ front_row (resident_rows lists ++ hospital_rows lists) (map (pair_row lists) (numbers_to (pair_count lists))) i (hospital_row lists h) p.within p.there

  is_resident_row : (r : ℕ) → r < length lists.residents → resident_has_pair lists r ≡ true → IsRow lists (count_by (resident_has_pair lists) (below r) + 1) (resident_row lists r)
  is_resident_row r l e =
      let d : PlainRow = in_normal_form (resident_row lists r) in
      let p : IsPlaced [] (resident_row lists) (resident_has_pair lists) (length lists.residents) r d =
      placed [] (resident_row lists) (resident_has_pair lists) d (length lists.residents) r l e in
      let i : ℕ = length {A = Written} [] + count_by (resident_has_pair lists) (below r) in
      let back : count_by (resident_has_pair lists) (below r) + 1 - 1 ≡ i = omega arith in
      let first : List PlainRow = map in_normal_form (resident_rows lists) in
      let next : List PlainRow = map in_normal_form (hospital_rows lists) in
      let both : map in_normal_form (resident_rows lists ++ hospital_rows lists) ≡ first ++ next = map-append in_normal_form (resident_rows lists) (hospital_rows lists) in
      ap (slice_get (rows lists)) back
      ∙ front_row (resident_rows lists ++ hospital_rows lists) (map (pair_row lists) (numbers_to (pair_count lists))) i (resident_row lists r)
      (omega (arith, p.within, ap length both, length-append first next))
      (ap (λ (rs : List PlainRow). get_or rs i d) both ∙ get_or_append_left first next d i p.within ∙ p.there)

  pub names_resident_row : (r : ℕ) (o : Option ℕ) → r < length lists.residents → o ≡ resident_row_no lists r → IfSome o (λ k. IsRow lists k (resident_row lists r))
  names_resident_row r o l e = subst (λ (o : Option ℕ). IfSome o (λ k. IsRow lists k (resident_row lists r))) (sym e) (elim (cases_Bool (resident_has_pair lists r)) [
    | inl h ↦ rw h (is_resident_row r l h)
    | inr h ↦ rw h tt
  ])

  pub names_hospital_row : (h : ℕ) (o : Option ℕ) → h < length lists.hospitals → o ≡ hospital_row_no lists h → IfSome o (λ k. IsRow lists k (hospital_row lists h))
  names_hospital_row h o l e = subst (λ (o : Option ℕ). IfSome o (λ k. IsRow lists k (hospital_row lists h))) (sym e) (elim (cases_Bool (hospital_has_pair lists h)) [
    | inl b ↦ rw b (is_hospital_row h l b)
    | inr b ↦ rw b tt
  ])
