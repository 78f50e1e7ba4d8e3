-- The operands of the bound row stand for all pairs, and their degrees and the ceiling make up the number of pairs.
use Rattle.std.proofs.Common.{◌≡◌, ℕ, ◌+◌, ◌-◌, ◌<◌, ◌≤◌, ◌^◌, min, Bool, true, false, not, ◌==◌, List, [], ◌∷◌, nat_le, nat_lt, if◌then◌else◌, length, map, get_or, sum_by, count_by, refl, sym, ap, ◌∙◌, subst, arith}
use Rattle.std.specs.Prelude.{flat_map, slice_get, Option, Some, None, IfSome, is_some}
use Rattle.std.specs.List.{AllByRecursion, list_any}
use Rattle.std.proofs.lemmas.Bool.{and_parts, leb-true, ltb-false, ltb-true}
use Rattle.std.proofs.lemmas.List.Elements.{recursion_from_All}
use Rattle.std.proofs.lemmas.List.Sums.{sum_by-cons}
use Rattle.std.proofs.lemmas.Option.{slice_get_within}
use Rattle.hrt_base.specs.declared.numbered.RowNo.{RowNo}
use Rattle.pb_rows.specs.Rows.{in_normal_form}
use Rattle.pb_rows.specs.Formula.{NumberedRow, row_of}
use Rattle.rank_tables.specs.Numbers.{below, is_distinct, is_in, numbers_to}
use Rattle.rank_tables.specs.Instance.{Lists, capacity_of, pair_at, pair_count, pairs_as_listed, rising_pairs_of_hospital, pairs_of_resident}
use Rattle.rank_tables.specs.Tables.{IsOfHospital, IsOfResident, IsPairNo}
use Rattle.rank_tables.specs.WellFormed.{IsWellFormed}
use Rattle.rank_tables.proofs.Below.{length-numbers_to}
use Rattle.rank_tables.proofs.Numbers.{distinct-filter, distinct-numbers_to, is_in-numbers_to, list_any-count, sum_by_same}
use Rattle.rank_tables.proofs.PairFacts.{pair_at-acceptable, pairs_as_listed-each, rising_pairs_of_hospital-each, pairs_of_resident-each}
use Rattle.rank_tables.proofs.SamePairs.{listed-distinct, listed-same}
use Rattle.stability_model.specs.Model.{IsRow, at_most, has_any, hospital_has_pair, hospital_row_no, resident_has_pair, resident_row_no, resident_rows, rows}
use Rattle.stability_model.specs.Gone.{posts_left, residents_left}
use Rattle.stability_model.proofs.Places.{names_hospital_row, names_resident_row}
use Rattle.stability_model.proofs.Counts.{count_alike}
use Rattle.proof_lines.specs.declared.line.PolStep.TheVariants.{Id}
use Rattle.proof_lines.specs.Spelling.{row_no}
use Rattle.proof_rules.specs.States.{AreNumbered}
use Rattle.derivation.specs.Deletions.{AreUnitRows, Deletions, is_deleted, unit_row_no, unit_row}
use Rattle.capacity_bound.specs.Steps.{hospital_operands, pair_operand, resident_operands, row_operand, unit_or_axiom}
use Rattle.capacity_bound.proofs.ByKinds.{count_all, count_lists, count_others, length_lists, sum_by_kinds}
use Rattle.capacity_bound.proofs.Covers.{covers_at_most, covers_unit}
use Rattle.capacity_bound.proofs.LiveSteps.{axiom_operand, id_operand}
use Rattle.capacity_bound.proofs.Running.{Amounts, Operand, amounts_one}

-- ---- lists with an element

any_has : (t : ℕ → Bool) (ps : List ℕ) → list_any t ps ≡ true → has_any ps ≡ true
any_has t [] e = absurd (cc)
any_has t (p ∷ ps) e = refl

any_some : (t : ℕ → Bool) (ps : List ℕ) → list_any t ps ≡ true → 1 ≤ length ps
any_some t [] e = absurd (cc)
any_some t (p ∷ ps) e = omega arith

count_has : (t : ℕ → Bool) (ps : List ℕ) (c : ℕ) → c < count_by t ps → (has_any ps ≡ true) × (1 ≤ length ps)
count_has t [] c h = absurd (omega arith)
count_has t (p ∷ ps) c h = (refl, omega arith)

none_counted : (t : ℕ → Bool) (ps : List ℕ) → list_any t ps ≡ false → count_by t ps ≡ 0
none_counted t ps e = let k : count_by t ps ≤ 0 = ltb-false 0 (count_by t ps) (sym (list_any-count t ps) ∙ e) in omega arith

the_smaller : (b : Bool) (c k : ℕ) → nat_lt c k ≡ b → (if b then c else k) ≡ min c k
the_smaller true c k e = let l : c < k = ltb-true c k e in omega arith
the_smaller false c k e = let l : k ≤ c = ltb-false c k e in omega arith

-- ---- all pairs

number_in : (n p : ℕ) → is_in p (numbers_to n) ≡ true → (1 ≤ p) × (p ≤ n)
number_in n p i =
    let two = and_parts (nat_le 1 p) (nat_le p n) (sym (is_in-numbers_to n p) ∙ i) in
    (leb-true 1 p two.0, leb-true p n two.1)

-- a list that counts as 1 to n does is as long
pub whole_length : (n : ℕ) (ps : List ℕ) → ((t : ℕ → Bool) → count_by t ps ≡ count_by t (numbers_to n)) → length ps ≡ n
whole_length n ps h = sym (count_all ps) ∙ h (λ p. true) ∙ count_all (numbers_to n) ∙ length-numbers_to n

-- ---- a hospital's pairs in the order of its list

pub numbers_distinct : (lists : Lists) (h : ℕ) → is_distinct (rising_pairs_of_hospital lists h) ≡ true
numbers_distinct lists h = distinct-filter (λ p. (pair_at lists p).hospital == h) (numbers_to (pair_count lists)) (distinct-numbers_to (pair_count lists))

listed_count : (lists : Lists) → IsWellFormed lists → (h : ℕ) (t : ℕ → Bool) → count_by t (pairs_as_listed lists h) ≡ count_by t (rising_pairs_of_hospital lists h)
listed_count lists formed h t = count_alike t (pairs_as_listed lists h) (rising_pairs_of_hospital lists h) (listed-distinct lists formed h) (numbers_distinct lists h) (listed-same lists formed h)

-- ---- operands

module _ (lists : Lists) (deletions : Deletions) (live : List NumberedRow) (next : ℕ) (order : AreNumbered 1 next live) (few : next ≤ 10 ^ 18) (units : AreUnitRows live deletions) (model : (k : ℕ) → 1 ≤ k → k ≤ length (rows lists) → row_of k live ≡ slice_get (rows lists) (k - 1)) (most : pair_count lists ≤ 100000) where
  abbrev pub is_left : ℕ → Bool
  is_left p = not (is_deleted deletions p)

  pair_is : (p : ℕ) → IsPairNo lists p → (u : Option RowNo) → IfSome u (λ id. row_of id.0 live ≡ Some (unit_row p)) →
      Operand (pair_count lists) live (unit_or_axiom p u) (p ∷ []) (if is_some u then 1 else 0)
  pair_is p i None h = axiom_operand (pair_count lists) next live order few p i.0 i.1 most
  pair_is p i (Some id) h = id_operand (pair_count lists) next live order few id.0 (unit_row p) (p ∷ []) 1 h (covers_unit p) (omega arith) (omega arith)

  pairs_amount : (ps : List ℕ) → AllByRecursion (IsPairNo lists) ps → Amounts (pair_count lists) live (map (pair_operand deletions) ps) ps (count_by (is_deleted deletions) ps)
  pairs_amount [] a = (refl, refl)
  pairs_amount (p ∷ ps) a = record {
    front = p ∷ [];
    behind = ps;
    here = if is_deleted deletions p then 1 else 0;
    after = count_by (is_deleted deletions) ps;
    first = pair_is p a.0 (unit_row_no deletions p) (units p);
    others = pairs_amount ps a.1;
    pairs_are = refl;
    degree_is = sum_by-cons (λ q. if is_deleted deletions q then 1 else 0) p ps;
  }

  row_amount : (k c : ℕ) (ps : List ℕ) → 1 ≤ k → IsRow lists k (at_most c ps) → 1 ≤ length ps → Amounts (pair_count lists) live (Id (row_no k) ∷ []) ps (length ps - c)
  row_amount k c ps first is some =
      let within : k - 1 < length (rows lists) = slice_get_within (rows lists) (k - 1) (in_normal_form (at_most c ps)) is in
      amounts_one (pair_count lists) live (Id (row_no k)) ps (length ps - c)
      (id_operand (pair_count lists) next live order few k (in_normal_form (at_most c ps)) ps (length ps - c) (model k first (omega arith) ∙ is) (covers_at_most c ps) some (omega arith))

  -- ---- by residents

  resident_declared : (r : ℕ) → 1 ≤ length (pairs_of_resident lists r) → r < length lists.residents
  resident_declared r some =
      let first : IsOfResident lists r (get_or (pairs_of_resident lists r) 0 0) = pairs_of_resident-each lists r 0 0 some in
      subst (λ (k : ℕ). k < length lists.residents) first.resident (pair_at-acceptable lists (get_or (pairs_of_resident lists r) 0 0) first.number).resident_declared

  resident_numbers : (r : ℕ) → AllByRecursion (IsPairNo lists) (pairs_of_resident lists r)
  resident_numbers r = recursion_from_All (IsPairNo lists) (pairs_of_resident lists r) (λ k d l. (pairs_of_resident-each lists r k d l).number)

  abbrev pub counted_of_resident : ℕ → ℕ
  counted_of_resident r = if list_any is_left (pairs_of_resident lists r) then 1 else 0

  resident_part : (r : ℕ) (b : Bool) → list_any is_left (pairs_of_resident lists r) ≡ b →
      Amounts (pair_count lists) live (if b then row_operand (resident_row_no lists r) else map (pair_operand deletions) (pairs_of_resident lists r)) (pairs_of_resident lists r)
      (length (pairs_of_resident lists r) - (if b then 1 else 0))
  resident_part r true e =
      let ps : List ℕ = pairs_of_resident lists r in
      let some : 1 ≤ length ps = any_some is_left ps e in
      let k : ℕ = count_by (resident_has_pair lists) (below r) + 1 in
      let number : resident_row_no lists r ≡ Some k = ap (λ (b : Bool). if b then Some k else None) (any_has is_left ps e) in
      subst (λ (o : Option ℕ). Amounts (pair_count lists) live (row_operand o) ps (length ps - 1)) (sym number)
      (row_amount k 1 ps (omega arith) (names_resident_row lists r (Some k) (resident_declared r some) (sym number)) some)
  resident_part r false e =
      let ps : List ℕ = pairs_of_resident lists r in
      subst (Amounts (pair_count lists) live (map (pair_operand deletions) ps) ps) (omega (arith, count_others (is_deleted deletions) ps, none_counted is_left ps e)) (pairs_amount ps (resident_numbers r))

  pub resident_amounts : (r : ℕ) → Amounts (pair_count lists) live (resident_operands lists deletions r) (pairs_of_resident lists r) (length (pairs_of_resident lists r) - counted_of_resident r)
  resident_amounts r = resident_part r (list_any is_left (pairs_of_resident lists r)) refl

  resident_counted : (r : ℕ) (b : Bool) → list_any is_left (pairs_of_resident lists r) ≡ b → (length (pairs_of_resident lists r) - (if b then 1 else 0)) + (if b then 1 else 0) ≡ length (pairs_of_resident lists r)
  resident_counted r true e = let some : 1 ≤ length (pairs_of_resident lists r) = any_some is_left (pairs_of_resident lists r) e in omega arith
  resident_counted r false e = omega arith

  pub residents_count : (t : ℕ → Bool) → count_by t (flat_map (pairs_of_resident lists) (below (length lists.residents))) ≡ count_by t (numbers_to (pair_count lists))
  residents_count t =
      count_lists t (pairs_of_resident lists) (below (length lists.residents))
      ∙ sum_by_kinds (λ p. (pair_at lists p).resident) (λ p. if t p then 1 else 0) (length lists.residents) (numbers_to (pair_count lists)) (λ p i. (pair_at-acceptable lists p (number_in (pair_count lists) p i)).resident_declared)

  pub residents_sum : sum_by (λ r. length (pairs_of_resident lists r) - counted_of_resident r) (below (length lists.residents)) + residents_left lists (is_deleted deletions) ≡ pair_count lists
  residents_sum =
      length_lists (pairs_of_resident lists) _ counted_of_resident (λ r. resident_counted r (list_any is_left (pairs_of_resident lists r)) refl) (below (length lists.residents))
      ∙ whole_length (pair_count lists) (flat_map (pairs_of_resident lists) (below (length lists.residents))) residents_count

  -- ---- by hospitals

  hospital_declared : (h : ℕ) → 1 ≤ length (rising_pairs_of_hospital lists h) → h < length lists.hospitals
  hospital_declared h some =
      let first : IsOfHospital lists h (get_or (rising_pairs_of_hospital lists h) 0 0) = rising_pairs_of_hospital-each lists h 0 0 some in
      subst (λ (k : ℕ). k < length lists.hospitals) first.hospital (pair_at-acceptable lists (get_or (rising_pairs_of_hospital lists h) 0 0) first.number).hospital_declared

  listed_numbers : (h : ℕ) → AllByRecursion (IsPairNo lists) (pairs_as_listed lists h)
  listed_numbers h = recursion_from_All (IsPairNo lists) (pairs_as_listed lists h) (λ k d l. (pairs_as_listed-each lists h k d l).number)

  abbrev pub is_over : ℕ → Bool
  is_over h = nat_lt (capacity_of lists h) (count_by is_left (rising_pairs_of_hospital lists h))

  -- in the order in which the operands name them
  abbrev pub list_of_hospital : ℕ → Bool → List ℕ
  list_of_hospital h b = if b then rising_pairs_of_hospital lists h else pairs_as_listed lists h

  abbrev pub counted_of_hospital : ℕ → Bool → ℕ
  counted_of_hospital h b = if b then capacity_of lists h else count_by is_left (rising_pairs_of_hospital lists h)

  module _ (formed : IsWellFormed lists) where
    hospital_part : (h : ℕ) (b : Bool) → is_over h ≡ b →
        Amounts (pair_count lists) live (if b then row_operand (hospital_row_no lists h) else map (pair_operand deletions) (pairs_as_listed lists h)) (list_of_hospital h b)
        (length (list_of_hospital h b) - counted_of_hospital h b)
    hospital_part h true e =
        let ps : List ℕ = rising_pairs_of_hospital lists h in
        let c : ℕ = capacity_of lists h in
        let has = count_has is_left ps c (ltb-true c (count_by is_left ps) e) in
        let k : ℕ = length (resident_rows lists) + count_by (hospital_has_pair lists) (below h) + 1 in
        let number : hospital_row_no lists h ≡ Some k = ap (λ (b : Bool). if b then Some k else None) has.0 in
        subst (λ (o : Option ℕ). Amounts (pair_count lists) live (row_operand o) ps (length ps - c)) (sym number)
        (row_amount k c ps (omega arith) (names_hospital_row lists h (Some k) (hospital_declared h has.1) (sym number)) has.1)
    hospital_part h false e =
        let ps : List ℕ = pairs_as_listed lists h in
        subst (Amounts (pair_count lists) live (map (pair_operand deletions) ps) ps) (omega (arith, count_others (is_deleted deletions) ps, listed_count lists formed h is_left)) (pairs_amount ps (listed_numbers h))

    pub hospital_amounts : (h : ℕ) →
        Amounts (pair_count lists) live (hospital_operands lists deletions h) (list_of_hospital h (is_over h)) (length (list_of_hospital h (is_over h)) - counted_of_hospital h (is_over h))
    hospital_amounts h = hospital_part h (is_over h) refl

    over_within : (h : ℕ) (b : Bool) → is_over h ≡ b → (length (list_of_hospital h b) - counted_of_hospital h b) + counted_of_hospital h b ≡ length (list_of_hospital h b)
    over_within h true e =
        let more : capacity_of lists h < count_by is_left (rising_pairs_of_hospital lists h) = ltb-true (capacity_of lists h) (count_by is_left (rising_pairs_of_hospital lists h)) e in
        omega (arith, count_others (is_deleted deletions) (rising_pairs_of_hospital lists h))
    over_within h false e = omega (arith, count_others (is_deleted deletions) (pairs_as_listed lists h), listed_count lists formed h is_left)

    list_count : (h : ℕ) (b : Bool) (t : ℕ → Bool) → count_by t (list_of_hospital h b) ≡ count_by t (rising_pairs_of_hospital lists h)
    list_count h true t = refl
    list_count h false t = listed_count lists formed h t

    pub hospitals_count : (t : ℕ → Bool) → count_by t (flat_map (λ h. list_of_hospital h (is_over h)) (below (length lists.hospitals))) ≡ count_by t (numbers_to (pair_count lists))
    hospitals_count t =
        count_lists t (λ h. list_of_hospital h (is_over h)) (below (length lists.hospitals))
        ∙ sum_by_same _ _ (below (length lists.hospitals)) (λ h. list_count h (is_over h) t)
        ∙ sum_by_kinds (λ p. (pair_at lists p).hospital) (λ p. if t p then 1 else 0) (length lists.hospitals) (numbers_to (pair_count lists)) (λ p i. (pair_at-acceptable lists p (number_in (pair_count lists) p i)).hospital_declared)

    pub hospitals_sum : sum_by (λ h. length (list_of_hospital h (is_over h)) - counted_of_hospital h (is_over h)) (below (length lists.hospitals)) + posts_left lists (is_deleted deletions) ≡ pair_count lists
    hospitals_sum =
        ap (λ (n : ℕ). sum_by (λ h. length (list_of_hospital h (is_over h)) - counted_of_hospital h (is_over h)) (below (length lists.hospitals)) + n)
        (sym (sum_by_same (λ h. counted_of_hospital h (is_over h)) _ (below (length lists.hospitals)) (λ h. the_smaller (is_over h) (capacity_of lists h) (count_by is_left (rising_pairs_of_hospital lists h)) refl)))
        ∙ length_lists (λ h. list_of_hospital h (is_over h)) _ (λ h. counted_of_hospital h (is_over h)) (λ h. over_within h (is_over h) refl) (below (length lists.hospitals))
        ∙ whole_length (pair_count lists) (flat_map (λ h. list_of_hospital h (is_over h)) (below (length lists.hospitals))) hospitals_count
