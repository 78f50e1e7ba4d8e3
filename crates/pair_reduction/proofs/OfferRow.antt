-- The line of an offer makes its row.
use Rattle.std.proofs.Common.{◌≡◌, ℕ, suc, ◌+◌, ◌-◌, ◌≤◌, Bool, true, false, not, ◌&&◌, ◌||◌, ◌==◌, List, [], ◌∷◌, ◌++◌, nat_lt, nat_le, if◌then◌else◌, length, ℤ, pos, negsuc, ◌+ℤ◌, refl, sym, ap, ap₂, ◌∙◌, subst, arith}
use Rattle.std.specs.Prelude.{flat_map, Option, Some, None, Result, Ok, Err, is_some, IfSome}
use Rattle.std.specs.List.{list_all}
use Rattle.std.specs.Int.RustNames.{unsigned_abs}
use Rattle.std.proofs.lemmas.Int.{ints}
use Rattle.std.proofs.lemmas.Bool.{and_from, and_parts, eq-eqb, eqb-true, leb-true, true≢false, not-true, le-ltb}
use Rattle.std.proofs.lemmas.List.Sums.{length-filter}
use Rattle.std.proofs.lemmas.Bool.Decides.{nat_tests}
use Rattle.hrt_base.specs.declared.numbered.RowNo.{RowNo}
use Rattle.pb_rows.specs.Terms.{PlainRow}
use Rattle.pb_rows.specs.Normal.{negative_part}
use Rattle.pb_rows.specs.Rows.{add, in_normal_form}
use Rattle.pb_rows.specs.Formula.{NumberedRow, row_of}
use Rattle.pb_rows.proofs.Coefs.{add-coefs, coef_row, coefs-nets, minus_sum, sum_below-same}
use Rattle.rank_tables.specs.Numbers.{is_in, numbers_to}
use Rattle.rank_tables.specs.Instance.{Lists, capacity_of, pair_at, pair_count, rising_pairs_of_hospital, pairs_of_resident, rank_by_hospital, rank_by_resident}
use Rattle.rank_tables.specs.Tables.{IsPairNo}
use Rattle.rank_tables.specs.WellFormed.{IsWellFormed}
use Rattle.rank_tables.proofs.Numbers.{distinct-filter, distinct-numbers_to, is_in-filter, all_at}
use Rattle.rank_tables.proofs.Unique.{pairs-apart}
use Rattle.stability_model.specs.Model.{hospital_row, hospital_row_no, pair_row, pair_row_no, stability_coef}
use Rattle.stability_model.specs.Gone.{has_only}
use Rattle.stability_model.proofs.CoefRows.{at_most-row, coefs_over, minus_one, none_negative, pair_coefs, pair_row-coefs}
use Rattle.rank_tables.proofs.PairNumbers.{is_pair, listed_pair, pair_listed, pair_of_resident}
use Rattle.proof_lines.specs.declared.line.PolStep.{PolStep}
use Rattle.proof_lines.specs.declared.line.PolStep.TheVariants.{Id, Add}
use Rattle.proof_lines.specs.Spelling.{is_small_step, row_no}
use Rattle.proof_rules.specs.Refusals.{Refusal, TooBig, and_then}
use Rattle.proof_rules.specs.Pol.{fits, only_row, pol_row, run_steps}
use Rattle.derivation.specs.Deletions.{AreUnitRows, Deletions, is_deleted, unit_row_no, unit_row}
use Rattle.pair_reduction.specs.Offers.{offer_steps, row_steps, before_steps, is_before, is_lower, offer_row}
use Rattle.pair_reduction.proofs.AtMost.{counted_below}
use Rattle.pair_reduction.proofs.OfferRun.{AreSmall, Clears, all_run, cleared, cleared-is, id_run, pushed, small_fits, small_minus}
use Rattle.pair_reduction.proofs.RuleB.{offer_coefs, offer_row-coefs}

-- a pair or not, q itself, of its resident and as high there, of its hospital and as high there
final : (b e r a h l : Bool) (c : ℕ) → (e ≡ true → h ≡ true) → (b ≡ true → r ≡ true → h ≡ true → e ≡ true) →
    (if (b && r) && (not e && a) then pos 0 else (if b then pos (if e then c + 1 else if r && a then c else if h && l then 1 else 0) else pos 0)) +ℤ (if b && h then negsuc 0 else pos 0)
    ≡ (if b then (if e then pos c else (if h && not l then negsuc 0 else pos 0)) else pos 0)
final false e r a h l c x y = refl
final true true true a true l c x y = omega (arith, ints)
final true true false a true l c x y = omega (arith, ints)
final true true r a false l c x y = absurd (true≢false (sym (x refl)))
final true false true a true l c x y = absurd (true≢false (sym (y refl refl refl)))
final true false true true false l c x y = refl
final true false true false false l c x y = refl
final true false false a true true c x y = refl
final true false false a true false c x y = refl
final true false false a false l c x y = refl

lower_is : (x y : ℕ) → nat_lt x y ≡ not (nat_le y x)
lower_is x y = grind (arith, nat_tests)

-- ---- sizes

pair_size : (b s a o : Bool) (c : ℕ) → c ≤ 20000 → unsigned_abs (if b then pos (if s then c + 1 else if a then c else if o then 1 else 0) else pos 0) ≤ 20001
pair_size false s a o c h = omega arith
pair_size true true a o c h = omega arith
pair_size true false true o c h = omega arith
pair_size true false false true c h = omega arith
pair_size true false false false c h = omega arith

offer_size : (b s l : Bool) (c : ℕ) → c ≤ 20000 → unsigned_abs (if b then (if s then pos c else (if l then negsuc 0 else pos 0)) else pos 0) ≤ 20001
offer_size false s l c h = omega arith
offer_size true true l c h = omega arith
offer_size true false true c h = omega arith
offer_size true false false c h = omega arith

module _ (lists : Lists) (formed : IsWellFormed lists) (q : ℕ) (q_is : IsPairNo lists q) where
  -- what is left of the pair's row
  abbrev pub left_coefs : ℕ → ℤ
  left_coefs = cleared (is_before lists q) (pairs_of_resident lists (pair_at lists q).resident) (pair_coefs lists q)

  abbrev pub post_coefs : ℕ → ℤ
  post_coefs = coefs_over minus_one (rising_pairs_of_hospital lists (pair_at lists q).hospital)

  apart : (v : ℕ) → is_pair lists v ≡ true → ((pair_at lists v).resident == (pair_at lists q).resident) ≡ true → ((pair_at lists v).hospital == (pair_at lists q).hospital) ≡ true → (v == q) ≡ true
  apart v i e f =
      eq-eqb v q (pairs-apart lists formed v q (listed_pair lists v i) q_is (eqb-true (pair_at lists v).resident (pair_at lists q).resident e) (eqb-true (pair_at lists v).hospital (pair_at lists q).hospital f))

  itself : (v : ℕ) → (v == q) ≡ true → ((pair_at lists v).hospital == (pair_at lists q).hospital) ≡ true
  itself v e = eq-eqb (pair_at lists v).hospital (pair_at lists q).hospital (ap (λ (w : ℕ). (pair_at lists w).hospital) (eqb-true v q e))

  sums : (v : ℕ) → left_coefs v +ℤ post_coefs v ≡ offer_coefs lists q v
  sums v =
      ap₂ ◌+ℤ◌
      (cleared-is (is_before lists q) (pairs_of_resident lists (pair_at lists q).resident) (pair_coefs lists q) v
      ∙ ap (λ (b : Bool). if b && is_before lists q v then pos 0 else pair_coefs lists q v) (is_in-filter (λ p. (pair_at lists p).resident == (pair_at lists q).resident) v (numbers_to (pair_count lists))))
      (ap (λ (b : Bool). if b then negsuc 0 else pos 0) (is_in-filter (λ p. (pair_at lists p).hospital == (pair_at lists q).hospital) v (numbers_to (pair_count lists))))
      ∙ final (is_pair lists v) (v == q) ((pair_at lists v).resident == (pair_at lists q).resident) (nat_le (rank_by_resident lists v) (rank_by_resident lists q)) ((pair_at lists v).hospital == (pair_at lists q).hospital)
      (nat_le (rank_by_hospital lists v) (rank_by_hospital lists q)) (capacity_of lists (pair_at lists q).hospital) (itself v) (apart v)
      ∙ ap (λ (b : Bool). if is_pair lists v then (if v == q then pos (capacity_of lists (pair_at lists q).hospital) else (if ((pair_at lists v).hospital == (pair_at lists q).hospital) && b then negsuc 0 else pos 0)) else pos 0)
      (sym (lower_is (rank_by_hospital lists q) (rank_by_hospital lists v)))

  one_or_none : (b : Bool) → ◌≡◌ {A = ℕ} (negative_part (if b then negsuc 0 else pos 0)) (if b then 1 else 0)
  one_or_none true = refl
  one_or_none false = refl

  not_minus : (b : Bool) (k : ℕ) → negative_part (if b then pos k else pos 0) ≡ 0
  not_minus true k = refl
  not_minus false k = refl

  pair_positive : (v : ℕ) → negative_part (pair_coefs lists q v) ≡ 0
  pair_positive v = not_minus (is_pair lists v) (stability_coef lists q v)

  zero_or : (b : Bool) (z : ℤ) → negative_part z ≡ 0 → negative_part (if b then pos 0 else z) ≡ 0
  zero_or true z h = refl
  zero_or false z h = h

  left_positive : (v : ℕ) → negative_part (left_coefs v) ≡ 0
  left_positive v =
      ap negative_part (cleared-is (is_before lists q) (pairs_of_resident lists (pair_at lists q).resident) (pair_coefs lists q) v)
      ∙ zero_or (is_in v (pairs_of_resident lists (pair_at lists q).resident) && is_before lists q v) (pair_coefs lists q v) (pair_positive v)

  -- the posts are no more than the hospital's pairs, and within the limits
  module _ (most : pair_count lists ≤ 100000) (most_posts : capacity_of lists (pair_at lists q).hospital ≤ 20000) (few : capacity_of lists (pair_at lists q).hospital ≤ length (rising_pairs_of_hospital lists (pair_at lists q).hospital)) where
    posts_minus : minus_sum (suc (pair_count lists)) post_coefs ≡ length (rising_pairs_of_hospital lists (pair_at lists q).hospital)
    posts_minus =
        sum_below-same (suc (pair_count lists)) (λ v. negative_part (post_coefs v)) (λ v. if is_in v (numbers_to (pair_count lists)) && ((pair_at lists v).hospital == (pair_at lists q).hospital) then 1 else 0)
        (λ v l. ap (λ (b : Bool). negative_part (if b then negsuc 0 else pos 0)) (is_in-filter (λ p. (pair_at lists p).hospital == (pair_at lists q).hospital) v (numbers_to (pair_count lists)))
        ∙ one_or_none (is_in v (numbers_to (pair_count lists)) && ((pair_at lists v).hospital == (pair_at lists q).hospital)))
        ∙ counted_below (pair_count lists) (λ v. (pair_at lists v).hospital == (pair_at lists q).hospital)
        ∙ sym (length-filter (λ v. (pair_at lists v).hospital == (pair_at lists q).hospital) (numbers_to (pair_count lists)))

    -- the row of the hospital is added
    last_added : add (coef_row (suc (pair_count lists)) left_coefs (capacity_of lists (pair_at lists q).hospital)) (in_normal_form (hospital_row lists (pair_at lists q).hospital)) ≡ offer_row lists q
    last_added =
        let c : ℕ = capacity_of lists (pair_at lists q).hospital in
        let m : ℕ = minus_sum (suc (pair_count lists)) post_coefs in
        ap (add (coef_row (suc (pair_count lists)) left_coefs c)) (at_most-row c (λ p. (pair_at lists p).hospital == (pair_at lists q).hospital) (pair_count lists))
        ∙ add-coefs (suc (pair_count lists)) left_coefs post_coefs (offer_coefs lists q) c (m - c) m (minus_sum (suc (pair_count lists)) (offer_coefs lists q))
        (coef_row (suc (pair_count lists)) left_coefs c) (coef_row (suc (pair_count lists)) post_coefs (m - c)) refl (coefs-nets (suc (pair_count lists)) post_coefs) refl (λ v l. sums v)
        (omega (arith, none_negative (suc (pair_count lists)) left_coefs left_positive, posts_minus, few))
        ∙ sym (offer_row-coefs lists q)

    pair_small : AreSmall (pair_coefs lists q)
    pair_small v =
        pair_size (is_in v (numbers_to (pair_count lists))) (v == q) ((pair_at lists v).resident == (pair_at lists q).resident && nat_le (rank_by_resident lists v) (rank_by_resident lists q))
        ((pair_at lists v).hospital == (pair_at lists q).hospital && nat_le (rank_by_hospital lists v) (rank_by_hospital lists q)) (capacity_of lists (pair_at lists q).hospital) most_posts

    offer_small : AreSmall (offer_coefs lists q)
    offer_small v = offer_size (is_in v (numbers_to (pair_count lists))) (v == q) (is_lower lists q v) (capacity_of lists (pair_at lists q).hospital) most_posts

    offer_fits : fits (offer_row lists q) ≡ true
    offer_fits =
        ap fits (offer_row-coefs lists q)
        ∙ small_fits (suc (pair_count lists)) (minus_sum (suc (pair_count lists)) (offer_coefs lists q)) (offer_coefs lists q) (omega (arith, most))
        (omega (arith, most, small_minus (suc (pair_count lists)) (offer_coefs lists q) offer_small)) offer_small

    module _ (live : List NumberedRow) (deletions : Deletions) (units : AreUnitRows live deletions) (only : has_only lists (is_deleted deletions) q ≡ true) (pair_live : row_of (pair_row_no lists q) live ≡ Some (in_normal_form (pair_row lists q))) (k : ℕ) (hospital_live : row_of k live ≡ Some (in_normal_form (hospital_row lists (pair_at lists q).hospital))) where
      some_unit : (p : ℕ) (o : Option RowNo) → unit_row_no deletions p ≡ o → is_some o ≡ true → (id : RowNo) × (unit_row_no deletions p ≡ Some id)
      some_unit p None e h = absurd (cc)
      some_unit p (Some id) e h = (id, e)

      unit_found : (p : ℕ) (id : RowNo) → unit_row_no deletions p ≡ Some id → row_of id.0 live ≡ Some (unit_row p)
      unit_found p id e = let P : Option RowNo → Type 0 = λ o. IfSome o (λ i. row_of i.0 live ≡ Some (unit_row p)) in subst P e (units p)

      gone_by : (s g l : Bool) → (s || g || l) ≡ true → s ≡ false → l ≡ false → g ≡ true
      gone_by true g l h e f = absurd (cc)
      gone_by false true l h e f = refl
      gone_by false false l h e f = absurd (true≢false (sym h ∙ f))

      coef_as : (b s a : Bool) (c d x : ℕ) → b ≡ true → s ≡ false → a ≡ true → (if b then pos (if s then d else if a then c else x) else pos 0) ≡ pos c
      coef_as true false true c d x e f h = refl
      coef_as false s a c d x e f h = absurd (cc)
      coef_as true true a c d x e f h = absurd (cc)
      coef_as true false false c d x e f h = absurd (cc)

      clears : (p : ℕ) → is_in p (pairs_of_resident lists (pair_at lists q).resident) ≡ true → is_before lists q p ≡ true → Clears (pair_count lists) live (suc (pair_count lists)) (capacity_of lists (pair_at lists q).hospital) deletions (pair_coefs lists q) p
      clears p i h =
          let here = pair_of_resident lists (pair_at lists q).resident p i in
          let two = and_parts (not (p == q)) (nat_le (rank_by_resident lists p) (rank_by_resident lists q)) h in
          let other : (p == q) ≡ false = not-true (p == q) two.0 in
          let le : rank_by_resident lists p ≤ rank_by_resident lists q = leb-true (rank_by_resident lists p) (rank_by_resident lists q) two.1 in
          let gone : is_deleted deletions p ≡ true = gone_by (p == q) (is_deleted deletions p) (nat_lt (rank_by_resident lists q) (rank_by_resident lists p))
          (all_at (λ o. o == q || is_deleted deletions o || nat_lt (rank_by_resident lists q) (rank_by_resident lists o)) (pairs_of_resident lists (pair_at lists q).resident) p only i) other (le-ltb (rank_by_resident lists q) (rank_by_resident lists p) le) in
          let found = some_unit p (unit_row_no deletions p) refl gone in
          record {
            id = found.0;
            unit = found.1;
            row = unit_found p found.0 found.1;
            within = omega (arith, here.0.1);
            coef = coef_as (is_pair lists p) (p == q) ((pair_at lists p).resident == (pair_at lists q).resident && nat_le (rank_by_resident lists p) (rank_by_resident lists q)) (capacity_of lists (pair_at lists q).hospital)
                (capacity_of lists (pair_at lists q).hospital + 1) (if (pair_at lists p).hospital == (pair_at lists q).hospital && nat_le (rank_by_hospital lists p) (rank_by_hospital lists q) then 1 else 0)
                (pair_listed lists p here.0) other (and_from ((pair_at lists p).resident == (pair_at lists q).resident) (nat_le (rank_by_resident lists p) (rank_by_resident lists q)) (eq-eqb (pair_at lists p).resident (pair_at lists q).resident here.1) two.1);
          }

      runs : run_steps (pair_count lists) live (Id (row_no (pair_row_no lists q)) ∷ (flat_map (before_steps lists deletions q) (pairs_of_resident lists (pair_at lists q).resident) ++ Id (row_no k) ∷ Add ∷ [])) [] ≡ Ok (offer_row lists q ∷ [])
      runs =
          let c : ℕ = capacity_of lists (pair_at lists q).hospital in
          let tail : List PolStep = Id (row_no k) ∷ Add ∷ [] in
          let steps : List PolStep = flat_map (before_steps lists deletions q) (pairs_of_resident lists (pair_at lists q).resident) ++ Id (row_no k) ∷ Add ∷ [] in
          let row : PlainRow = in_normal_form (hospital_row lists (pair_at lists q).hospital) in
          id_run (pair_count lists) live (row_no (pair_row_no lists q)) (in_normal_form (pair_row lists q)) steps [] pair_live
          ∙ ap (λ (r : PlainRow). run_steps (pair_count lists) live steps (r ∷ [])) (pair_row-coefs lists q)
          ∙ all_run (pair_count lists) live (suc (pair_count lists)) c (omega (arith, most)) most_posts deletions (is_before lists q) (pairs_of_resident lists (pair_at lists q).resident) (pair_coefs lists q) tail
          (distinct-filter (λ p. (pair_at lists p).resident == (pair_at lists q).resident) (numbers_to (pair_count lists)) (distinct-numbers_to (pair_count lists))) clears pair_small pair_positive
          ∙ id_run (pair_count lists) live (row_no k) row (Add ∷ []) (coef_row (suc (pair_count lists)) left_coefs c ∷ []) hospital_live
          ∙ pushed (fits (add (coef_row (suc (pair_count lists)) left_coefs c) row)) (add (coef_row (suc (pair_count lists)) left_coefs c) row) [] (λ next. run_steps (pair_count lists) live [] next) (ap fits last_added ∙ offer_fits)
          ∙ ap (λ (r : PlainRow). Ok (r ∷ [])) last_added

      by_small : (b : Bool) (r : Result (List PlainRow) Refusal) → b ≡ true → r ≡ Ok (offer_row lists q ∷ []) → (if b then and_then r only_row else Err TooBig) ≡ Ok (offer_row lists q)
      by_small b r s e = rw (s, e) refl

      pub offer_made : hospital_row_no lists (pair_at lists q).hospital ≡ Some k → list_all is_small_step (offer_steps lists deletions q) ≡ true → pol_row (pair_count lists) live (offer_steps lists deletions q) ≡ Ok (offer_row lists q)
      offer_made e small =
          let steps : Option ℕ → List PolStep = λ o. Id (row_no (pair_row_no lists q)) ∷ (flat_map (before_steps lists deletions q) (pairs_of_resident lists (pair_at lists q).resident) ++ row_steps o) in
          by_small (list_all is_small_step (offer_steps lists deletions q)) (run_steps (pair_count lists) live (offer_steps lists deletions q) []) small
          (ap (λ (o : Option ℕ). run_steps (pair_count lists) live (steps o) []) e ∙ runs)
