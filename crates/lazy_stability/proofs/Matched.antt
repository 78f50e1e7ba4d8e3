-- The candidate of a full quiet engine is a matching where the rows of residents and hospitals are held.
use Rattle.std.proofs.Common.{le-leb, ◌≡◌, ℕ, ◌+◌, ◌-◌, ◌<◌, ◌==◌, Bool, true, false, ◌&&◌, nat_le, if◌then◌else◌, List, [], ◌∷◌, ◌++◌, length, map, filter, count_by, get_or, ℤ, pos, neg_ℤ, ◌+ℤ◌, int_le, refl, sym, ap, ◌∙◌, subst, inl, inr, arith, length-append}
use Rattle.std.specs.Prelude.{IsTrue, Some, slice_get}
use Rattle.std.specs.List.{All}
use Rattle.std.proofs.lemmas.Bool.{and_from, and_parts, eq-eqb, eqb-true, leb-true, lt-ltb, or_cases}
use Rattle.std.proofs.lemmas.Bool.Decides.{nat_tests}
use Rattle.std.proofs.lemmas.Int.{ints}
use Rattle.std.proofs.lemmas.List.{get_or-map, length-map}
use Rattle.std.proofs.lemmas.List.Elements.{All-head, All-tail}
use Rattle.std.proofs.lemmas.List.Sums.{sum_by-cons}
use Rattle.std.proofs.lemmas.Option.{slice_get-get_or}
use Rattle.std.proofs.Math.ListN.{get_or-append}
use Rattle.std.proofs.Math.Seq.{get_or-append_right}
use Rattle.pb_rows.specs.Terms.{PlainRow, Written}
use Rattle.pb_rows.specs.Points.{Point, value_at}
use Rattle.pb_rows.specs.Rows.{holds, in_normal_form}
use Rattle.pb_rows.specs.Formula.{row_of}
use Rattle.pb_rows.proofs.ByNets.{holds-normal_form}
use Rattle.rank_tables.specs.Numbers.{below, is_in, numbers_to}
use Rattle.rank_tables.specs.Instance.{capacity_of, pair_at, pair_count}
use Rattle.rank_tables.specs.Stability.{is_matching}
use Rattle.rank_tables.specs.Tables.{IsPairNo}
use Rattle.rank_tables.proofs.Numbers.{all_from, count_by-filter, distinct-filter, distinct-numbers_to, is_in-below, is_in-filter, is_in-numbers_to}
use Rattle.rank_tables.proofs.PairFacts.{pair_at-acceptable}
use Rattle.stability_model.specs.Model.{at_most, has_any, hospital_rows, pair_row, pair_row_no, pairs_of_point, resident_rows, rows, term, written_rows}
use Rattle.stability_model.proofs.Growing.{rows_count}
use Rattle.proof_lines.specs.declared.note.Note.TheVariants.{Unit as UnitRow, Bound as BoundRow, Load, Learn, Drop}
use Rattle.proof_rules.specs.Held.{held_rows, is_held, row_numbers}
use Rattle.proof_rules.proofs.Held.{is_in-append}
use Rattle.derivation.specs.Derived.{Derived}
use Rattle.derivation.specs.Ready.{IsReady}
use Rattle.agreement.proofs.Numbers.{or_first}
use Rattle.agreement.proofs.SameRows.{held_row}
use Rattle.lazy_stability.specs.Candidates.{point_of_trail}
use Rattle.lazy_stability.specs.Laws.{CandidatesAreMatchings, FirstStayHeld, NotesKeepFirst, StartsHoldFirst}
use Rattle.lazy_stability.proofs.Honest.{hold_at}

-- ---- which rows stay held

pub first_at_start : StartsHoldFirst
first_at_start lists n low high = is_in-numbers_to (pair_row_no lists 0) n ∙ and_from (nat_le 1 n) (nat_le n (pair_row_no lists 0)) (le-leb 1 n low) (le-leb n (pair_row_no lists 0) high)

more_kept : (n : ℕ) (kept numbers : List ℕ) → is_in n kept ≡ true → is_in n (kept ++ numbers) ≡ true
more_kept n kept numbers h = is_in-append n kept numbers ∙ or_first (is_in n kept) (is_in n numbers) h

pub first_kept : NotesKeepFirst
first_kept d (UnitRow id) first n low high = more_kept n d.held.kept (id.0 ∷ []) (first n low high)
first_kept d (BoundRow id) first n low high = more_kept n d.held.kept (id.0 ∷ []) (first n low high)
first_kept d (Load trues ids) first n low high = more_kept n d.held.kept (row_numbers ids) (first n low high)
first_kept d (Learn id decisions l) first n low high = first n low high
first_kept d (Drop id) first n low high = first n low high

-- ---- what a row says of its pairs

minus_step : (b : Bool) (n : ℕ) (v : ℤ) → v ≡ neg_ℤ (pos n) → (if b then neg_ℤ (pos 1) else pos 0) +ℤ v ≡ neg_ℤ (pos ((if b then 1 else 0) + n))
minus_step true n v e = omega (arith, ints)
minus_step false n v e = omega (arith, ints)

minus_count : (point : Point) (qs : List ℕ) → value_at point (map (λ q. term (neg_ℤ (pos 1)) q) qs) ≡ neg_ℤ (pos (count_by point qs))
minus_count point [] = refl
minus_count point (q ∷ qs) =
    minus_step (point q) (count_by point qs) (value_at point (map (λ x. term (neg_ℤ (pos 1)) x) qs)) (minus_count point qs) ∙ ap (λ (n : ℕ). neg_ℤ (pos n)) (sym (sum_by-cons (λ x. if point x then 1 else 0) q qs))

below_minus : (n c : ℕ) → int_le (neg_ℤ (pos c)) (neg_ℤ (pos n)) ≡ nat_le n c
below_minus n c = grind (arith, ints, nat_tests)

-- where it holds, at most so many of its pairs are taken
at_most_taken : (point : Point) (c : ℕ) (ps : List ℕ) → holds point (in_normal_form (at_most c ps)) ≡ true → nat_le (count_by point ps) c ≡ true
at_most_taken point c ps h =
    sym (below_minus (count_by point ps) c)
    ∙ ap (int_le (neg_ℤ (pos c))) (sym (minus_count point ps)) ∙ sym (holds-normal_form point (map (λ q. term (neg_ℤ (pos 1)) q) ps) (neg_ℤ (pos c))) ∙ h

-- ---- rows of one kind

-- what holds of each row of a list holds of that of a number in it
row_at_number : (P : Written → Type 0) (f : ℕ → Written) (ks : List ℕ) (k : ℕ) → All P (map f ks) → is_in k ks ≡ true → P (f k)
row_at_number P f [] k all i = absurd (cc)
row_at_number P f (j ∷ ks) k all i = elim (or_cases (j == k) (is_in k ks) i) [
  | inl s ↦ subst (λ (n : ℕ). P (f n)) (eqb-true j k s) (All-head P (f j) (map f ks) all)
  | inr s ↦ row_at_number P f ks k (All-tail P (f j) (map f ks) all) s
]

some_has : (x : ℕ) (xs : List ℕ) → is_in x xs ≡ true → has_any xs ≡ true
some_has x [] i = absurd (cc)
some_has x (y ∷ ys) i = refl

module _ (kind limit : ℕ → ℕ) (point : Point) (n size : ℕ) (declared : (q : ℕ) → is_in q (numbers_to n) ≡ true → kind q < size)
    (all : All (λ (w : Written). holds point (in_normal_form w) ≡ true) (map (λ k. at_most (limit k) (filter (λ q. kind q == k) (numbers_to n))) (filter (λ k. has_any (filter (λ q. kind q == k) (numbers_to n))) (below size)))) where
  -- of the pairs of each taken pair's kind at most as many are taken as its limit
  pub kind_within : (q : ℕ) → is_in q (filter point (numbers_to n)) ≡ true → nat_le (count_by (λ y. kind y == kind q) (filter point (numbers_to n))) (limit (kind q)) ≡ true
  kind_within q i =
      let here = (and_parts (is_in q (numbers_to n)) (point q) (sym (is_in-filter point q (numbers_to n)) ∙ i)).0 in
      let own : ℕ → Bool = λ y. kind y == kind q in
      let has : has_any (filter own (numbers_to n)) ≡ true = some_has q (filter own (numbers_to n)) (is_in-filter own q (numbers_to n) ∙ and_from (is_in q (numbers_to n)) (kind q == kind q) here (eq-eqb (kind q) (kind q) refl)) in
      let stands = is_in-filter (λ k. has_any (filter (λ y. kind y == k) (numbers_to n))) (kind q) (below size) ∙ and_from (is_in (kind q) (below size)) (has_any (filter own (numbers_to n))) (is_in-below size (kind q) ∙ lt-ltb (kind q) size (declared q here)) has in
      ap (λ (k : ℕ). nat_le k (limit (kind q))) (sym (count_by-filter own point (numbers_to n)))
      ∙ at_most_taken point (limit (kind q)) (filter own (numbers_to n))
      (row_at_number (λ (w : Written). holds point (in_normal_form w) ≡ true) (λ k. at_most (limit k) (filter (λ y. kind y == k) (numbers_to n))) (filter (λ k. has_any (filter (λ y. kind y == k) (numbers_to n))) (below size)) (kind q) all stands)

-- ---- the held rows of residents and hospitals

module _ (d : Derived) (point : Point) (ready : IsReady d) (first : FirstStayHeld d) (hold : All (λ (r : PlainRow). IsTrue (holds point r)) (held_rows d.state.live d.held)) where
  row_holds : (k : ℕ) (w : Written) → k < pair_row_no d.lists 0 → holds point (in_normal_form (get_or (written_rows d.lists) k w)) ≡ true
  row_holds k w low =
      let n : ℕ = k + 1 in
      let back : n - 1 ≡ k = omega arith in
      let within : k < length (rows d.lists) = omega (arith, low, rows_count d.lists) in
      let here : row_of n d.state.live ≡ Some (get_or (rows d.lists) k (in_normal_form w)) =
      ready.model_live n (omega arith) (omega (arith, within)) ∙ ap (slice_get (rows d.lists)) back ∙ slice_get-get_or (rows d.lists) k (in_normal_form w) within in
      let kept : is_held d.held n ≡ true = is_in-append n d.held.kept d.held.learned ∙ or_first (is_in n d.held.kept) (is_in n d.held.learned) (first n (omega arith) (omega (arith, low))) in
      ap (holds point) (sym (get_or-map in_normal_form (written_rows d.lists) k w (in_normal_form w) (omega (arith, within, length-map (written_rows d.lists) in_normal_form))))
      ∙ held_row (λ (r : PlainRow). IsTrue (holds point r)) (is_held d.held) n (get_or (rows d.lists) k (in_normal_form w)) d.state.live kept here hold

  residents_hold : All (λ (w : Written). holds point (in_normal_form w) ≡ true) (resident_rows d.lists)
  residents_hold = λ k w l.
      let behind = map (pair_row d.lists) (numbers_to (pair_count d.lists)) in
      subst (λ (v : Written). holds point (in_normal_form v) ≡ true)
      (get_or-append (resident_rows d.lists ++ hospital_rows d.lists) behind w k (omega (arith, l, length-append (resident_rows d.lists) (hospital_rows d.lists))) ∙ get_or-append (resident_rows d.lists) (hospital_rows d.lists) w k l)
      (row_holds k w (omega (arith, l)))

  hospitals_hold : All (λ (w : Written). holds point (in_normal_form w) ≡ true) (hospital_rows d.lists)
  hospitals_hold = λ k w l.
      let behind = map (pair_row d.lists) (numbers_to (pair_count d.lists)) in
      let rs = resident_rows d.lists in
      let hs = hospital_rows d.lists in
      let back : length rs + k - length rs ≡ k = omega arith in
      subst (λ (v : Written). holds point (in_normal_form v) ≡ true)
      (get_or-append (rs ++ hs) behind w (length rs + k) (omega (arith, l, length-append rs hs)) ∙ get_or-append_right rs hs (length rs + k) w (omega arith) ∙ ap (λ (j : ℕ). get_or hs j w) back)
      (row_holds (length rs + k) w (omega (arith, l)))

  is_number : (q : ℕ) → is_in q (numbers_to (pair_count d.lists)) ≡ true → IsPairNo d.lists q
  is_number q i =
      let parts = and_parts (nat_le 1 q) (nat_le q (pair_count d.lists)) (sym (is_in-numbers_to (pair_count d.lists) q) ∙ i) in
      (leb-true 1 q parts.0, leb-true q (pair_count d.lists) parts.1)

  pub point_matched : is_matching d.lists (pairs_of_point d.lists point) ≡ true
  point_matched =
      let n : ℕ = pair_count d.lists in
      let m : List ℕ = pairs_of_point d.lists point in
      let resident : ℕ → ℕ = λ q. (pair_at d.lists q).resident in
      let hospital : ℕ → ℕ = λ q. (pair_at d.lists q).hospital in
      and_from _ _
      (and_from _ _
      (and_from _ _ (distinct-filter point (numbers_to n) (distinct-numbers_to n))
      (all_from (λ q. nat_le 1 q && nat_le q n) m (λ q i. sym (is_in-numbers_to n q) ∙ (and_parts (is_in q (numbers_to n)) (point q) (sym (is_in-filter point q (numbers_to n)) ∙ i)).0)))
      (all_from (λ q. nat_le (count_by (λ y. resident y == resident q) m) 1) m (kind_within resident (λ r. 1) point n (length d.lists.residents) (λ q i. (pair_at-acceptable d.lists q (is_number q i)).resident_declared) residents_hold)))
      (all_from (λ q. nat_le (count_by (λ y. hospital y == hospital q) m) (capacity_of d.lists (hospital q))) m (kind_within hospital (capacity_of d.lists) point n (length d.lists.hospitals) (λ q i. (pair_at-acceptable d.lists q (is_number q i)).hospital_declared) hospitals_hold))

pub matched : CandidatesAreMatchings
matched e d agree order ready first moment full idle = point_matched d (point_of_trail e.trail) ready first (hold_at e d agree order full moment.sound idle (point_of_trail e.trail) (λ v low high. refl))
