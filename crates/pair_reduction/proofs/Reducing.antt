-- Pairs are deleted one after another.
use Rattle.std.proofs.Common.{◌≡◌, ◌≢◌, ℕ, zero, suc, ◌+◌, ◌-◌, ◌<◌, ◌≤◌, true, false, ◌||◌, ◌==◌, List, [], ◌∷◌, ◌++◌, if◌then◌else◌, length, get_or, set, refl, sym, ap, ◌∙◌, subst, inl, inr, arith, append_assoc, length-set, get_or-set_same, get_or-set_other}
use Rattle.std.specs.Prelude.{Option, Some, None, IfSome, is_some, slice_set, replicate}
use Rattle.std.proofs.lemmas.Bool.{cases_eq, eq-eqb, eqb-true, or_cases, or_left, or_parts, or_right, true≢false}
use Rattle.std.proofs.lemmas.List.{append-nil, length-append, length-replicate}
use Rattle.std.proofs.lemmas.List.Folds.{sum_by-replicate}
use Rattle.std.proofs.lemmas.List.Sums.{count_by-le-length, sum_by-set}
use Rattle.hrt_base.specs.declared.numbered.RowNo.{RowNo}
use Rattle.pb_rows.specs.Terms.{PlainRow}
use Rattle.pb_rows.specs.Formula.{NumberedRow, row_of}
use Rattle.rank_tables.specs.Numbers.{is_in}
use Rattle.rank_tables.specs.Instance.{Lists, pair_count}
use Rattle.rank_tables.specs.Tables.{IsPairNo}
use Rattle.stability_model.specs.Gone.{AreGone, Gone, rule_a, rule_b}
use Rattle.stability_model.proofs.GoneInNone.{gone_in_none}
use Rattle.stability_model.proofs.GoneSteps.{gone_exact, gone_step}
use Rattle.proof_lines.specs.declared.line.Line.{Line}
use Rattle.proof_lines.specs.declared.line.Line.TheVariants.{Pol}
use Rattle.proof_lines.specs.declared.line.PolStep.{PolStep}
use Rattle.proof_lines.specs.Spelling.{row_no}
use Rattle.proof_lines.specs.Texts.{line_text}
use Rattle.proof_rules.specs.Held.{keeping, row_numbers}
use Rattle.proof_rules.specs.States.{IsInOrder}
use Rattle.proof_rules.proofs.Held.{is_in-append}
use Rattle.derivation.specs.Deletions.{AreUnitRows, Deletions, deleted_count, is_deleted, unit_row_no, unit_row}
use Rattle.derivation.specs.Derived.{Derived, StaysValid}
use Rattle.derivation.specs.Pieces.{TakesLine}
use Rattle.derivation.specs.Ready.{IsReady}
use Rattle.derivation.specs.Steps.{with_new_row}
use Rattle.derivation.proofs.Readiness.{ready_row, row_last, row_numbered}
use Rattle.pair_reduction.specs.Known.{IsOneMore}
use Rattle.pair_reduction.specs.Reduced.{AreInNone, CanReduce, Deletes, GoesOn, HasRoom, IsClosedTo, KeepsLive, Reduces}
use Rattle.pair_reduction.proofs.Added.{adds_nothing, adds_pol, only_row, units_further}
use Rattle.pair_reduction.proofs.GoingOn.{goes_further, goes_nowhere, goes_row, kept_further, kept_row, made_further, made_none, numbers_in, units_kept}

-- ---- the map

pub absent_from : (o : Option RowNo) → is_some o ≡ false → o ≡ None
absent_from None e = refl
absent_from (Some id) e = absurd (true≢false e)

module _ (before : Deletions) (p : ℕ) (id : RowNo) (first : 1 ≤ p) (last : p ≤ length before) where
  same_place : (k : ℕ) → k < length before → get_or (set before k (Some id)) k None ≡ Some id
  same_place k within = rw get_or-set_same

  pub marked_here : unit_row_no (slice_set before (p - 1) (Some id)) p ≡ Some id
  marked_here = by p refl
    where
      by : (k : ℕ) → p ≡ k → unit_row_no (slice_set before (p - 1) (Some id)) k ≡ Some id
      by zero e = absurd (omega arith)
      by (suc k) e =
          let same : p - 1 ≡ k = omega arith in
          let within : k < length before = omega arith in
          ap (λ (j : ℕ). get_or (set before j (Some id)) k None) same ∙ same_place k within

  pub marked_other : (q : ℕ) → (q ≡ p → ⊥) → unit_row_no (slice_set before (p - 1) (Some id)) q ≡ unit_row_no before q
  marked_other zero other = refl
  marked_other (suc k) other = let ne : k ≢ p - 1 = λ e. other (omega arith) in rw get_or-set_other

  module _ (absent : unit_row_no before p ≡ None) where
    free : get_or before (p - 1) None ≡ None
    free = by p refl absent
      where
        by : (k : ℕ) → p ≡ k → unit_row_no before k ≡ None → get_or before (p - 1) None ≡ None
        by zero e h = absurd (omega arith)
        by (suc k) e h = let same : p - 1 ≡ k = omega arith in ap (λ (j : ℕ). get_or before j None) same ∙ h

    pub marked_count : deleted_count (slice_set before (p - 1) (Some id)) ≡ deleted_count before + 1
    marked_count =
        let s = sum_by-set (λ (o : Option RowNo). if is_some o then 1 else 0) before (p - 1) (Some id) None (omega arith) in
        let z : ◌≡◌ {A = ℕ} (if is_some (get_or before (p - 1) None) then 1 else 0) 0 = ap (λ (o : Option RowNo). if is_some o then 1 else 0) free in
        omega (arith, s, z)

    pub one_left : deleted_count before + 1 ≤ length before
    one_left = omega (arith, marked_count, count_by-le-length is_some (slice_set before (p - 1) (Some id)), length-set before (p - 1) (Some id))

-- ---- one pair more

grown_unit : (before : Deletions) (p q : ℕ) (id : RowNo) (other : RowNo) → 1 ≤ p → p ≤ length before → unit_row_no before p ≡ None → unit_row_no before q ≡ Some other → unit_row_no (slice_set before (p - 1) (Some id)) q ≡ Some other
grown_unit before p q id other first last absent e =
    marked_other before p id first last q (λ f. let wrong : ◌≡◌ {A = Option RowNo} None (Some other) = sym absent ∙ ap (unit_row_no before) (sym f) ∙ e in absurd (cc)) ∙ e

was_deleted : (before : Deletions) (p q : ℕ) (id : RowNo) → 1 ≤ p → p ≤ length before → is_deleted (slice_set before (p - 1) (Some id)) q ≡ true → (q ≡ p → ⊥) → is_deleted before q ≡ true
was_deleted before p q id first last e other = ap is_some (sym (marked_other before p id first last q other)) ∙ e

one_of : (n k : ℕ) → is_in n (k ∷ []) ≡ true → n ≡ k
one_of n k e = elim (or_cases (k == n) false e) [
  | inl f ↦ sym (eqb-true k n f)
  | inr f ↦ absurd (cc)
]

here_is : (n k : ℕ) → n ≡ k → is_in k (n ∷ []) ≡ true
here_is n k e = or_left (n == k) false (eq-eqb n k e)

some_number : (n : ℕ) (id : RowNo) → ◌≡◌ {A = Option RowNo} (Some (row_no n)) (Some id) → n ≡ id.0
some_number n id e = cc

units_with : (live : List NumberedRow) (before : Deletions) (p q : ℕ) (id : RowNo) → 1 ≤ p → p ≤ length before → AreUnitRows live before → row_of id.0 live ≡ Some (unit_row p) → IfSome (unit_row_no (slice_set before (p - 1) (Some id)) q) (λ k. row_of k.0 live ≡ Some (unit_row q))
units_with live before p q id first last units row = elim (cases_eq q p) [
  | inl e ↦ subst (λ (o : Option RowNo). IfSome o (λ k. row_of k.0 live ≡ Some (unit_row q))) (sym (ap (unit_row_no (slice_set before (p - 1) (Some id))) e ∙ marked_here before p id first last)) (row ∙ ap (λ (k : ℕ). Some (unit_row k)) (sym e))
  | inr other ↦ subst (λ (o : Option RowNo). IfSome o (λ k. row_of k.0 live ≡ Some (unit_row q))) (sym (marked_other before p id first last q other)) (units q)
]

pub reduces_one : (lists : Lists) (old new : Derived) (before after : Deletions) (p : ℕ) → CanReduce lists old before → IsPairNo lists p → unit_row_no before p ≡ None → (rule_a lists (is_deleted before) p || rule_b lists (is_deleted before) p) ≡ true →
    Deletes old new before after p → new.state.next ≤ old.state.next + 1 → Reduces lists old new before after []
reduces_one lists old new before after p can p_is absent rule d few =
    let first : 1 ≤ p = p_is.0 in
    let last : p ≤ length before = omega (arith, can.pairs, p_is.1) in
    let id : RowNo = row_no d.id in
    let marked : after ≡ slice_set before (p - 1) (Some id) = d.marked in
    let count : deleted_count after ≡ deleted_count before + 1 = ap deleted_count marked ∙ marked_count before p id first last absent in
    let here : unit_row_no after p ≡ Some id = ap (λ (m : Deletions). unit_row_no m p) marked ∙ marked_here before p id first last in
    record {
      can = record {
        same = can.same ∙ sym d.goes_on.lists;
        ready = d.ready;
        units = subst (AreUnitRows new.state.live) (sym marked) (λ q. units_with new.state.live before p q id first last (units_kept old new before d.kept can.units) d.row);
        pairs = ap length marked ∙ length-set before (p - 1) (Some id) ∙ can.pairs;
        gone = λ q e. elim (cases_eq q p) [
          | inl f ↦ subst (Gone lists) (sym f) (gone_step lists (is_deleted before) p (λ k h. can.gone k h) p_is rule)
          | inr other ↦ can.gone q (was_deleted before p q id first last (ap (λ (m : Deletions). is_deleted m q) (sym marked) ∙ e) other)
        ];
      };
      goes_on = d.goes_on;
      kept = d.kept;
      few = omega (arith, few, count);
      stays = λ q other e. ap (λ (m : Deletions). unit_row_no m q) marked ∙ grown_unit before p q id other first last absent e;
      ids = d.id ∷ [];
      later = λ n i. let e = one_of n d.id i in let l = d.later in (omega (arith, l.0), omega (arith, l.1));
      held = d.held;
      notes = d.notes;
      offers = made_none old new;
      apart = λ n i j. true≢false (sym j);
      only = λ n live out none. d.only n live out;
      all = λ q other e. elim (cases_eq q p) [
        | inl f ↦ inr (here_is d.id other.0 (some_number d.id other (sym here ∙ ap (unit_row_no after) (sym f) ∙ e)))
        | inr differs ↦ inl (sym (marked_other before p id first last q differs) ∙ ap (λ (m : Deletions). unit_row_no m q) (sym marked) ∙ e)
      ];
      count = omega (arith, count);
      each = λ n i. (p, here ∙ ap (λ (k : ℕ). Some (row_no k)) (sym (one_of n d.id i)));
    }

-- ---- none and several

pub reduces_none : (lists : Lists) (d : Derived) (deletions : Deletions) → CanReduce lists d deletions → Reduces lists d d deletions deletions []
reduces_none lists d deletions can = record {
  can = can;
  goes_on = goes_nowhere d;
  kept = λ n row e. e;
  few = omega arith;
  stays = λ p id e. e;
  ids = [];
  later = λ n i. absurd (true≢false (sym i));
  held = ap (λ (ns : List ℕ). record d.held { kept = ns }) (sym (append-nil d.held.kept));
  notes = adds_nothing deletions d;
  offers = made_none d d;
  apart = λ n i j. true≢false (sym j);
  only = λ n live out none. live;
  all = λ p id e. inl e;
  count = omega arith;
  each = λ n i. absurd (true≢false (sym i));
}

-- an offer was made
pub reduces_offer : (lists : Lists) (old new : Derived) (deletions : Deletions) (row : PlainRow) (steps : List PolStep) (id : RowNo) → CanReduce lists old deletions → IsInOrder old.state → id.0 ≡ old.state.next → new ≡ with_new_row row (line_text (Pol steps)) old → TakesLine (Pol steps) old new → StaysValid old new →
    Reduces lists old new deletions deletions (id ∷ [])
reduces_offer lists old new deletions row steps id can order number e takes valid =
    let line : Line = Pol steps in
    let next : new.state.next ≡ old.state.next + 1 = ap (λ (d : Derived). d.state.next) e in
    let goes : GoesOn old new = goes_row row (line_text line) old new e valid in
    let kept : KeepsLive old new = kept_row row (line_text line) old new e in
    let there : row_of old.state.next new.state.live ≡ Some row = ap (λ (d : Derived). row_of old.state.next d.state.live) e ∙ row_last old.state.next row old.state.live order in
    record {
      can = record {
        same = can.same ∙ sym goes.lists;
        ready = subst IsReady (sym e) (ready_row row (line_text line) old can.ready);
        units = units_kept old new deletions kept can.units;
        pairs = can.pairs;
        gone = can.gone;
      };
      goes_on = goes;
      kept = kept;
      few = omega (arith, next);
      stays = λ p other f. f;
      ids = [];
      later = λ n i. absurd (true≢false (sym i));
      held = ap (λ (d : Derived). d.held) e ∙ ap (λ (ns : List ℕ). record old.held { kept = ns }) (sym (append-nil old.held.kept));
      notes = adds_pol deletions steps old new can.ready takes;
      offers = record {
        distinct = refl;
        each = λ n i.
            let same : n ≡ id.0 = one_of n id.0 i in
            (omega (arith, number), omega (arith, number, next), row_numbered n row new.state.live (ap (λ (k : ℕ). row_of k new.state.live) (same ∙ number) ∙ there));
      };
      apart = λ n i j. true≢false (sym i);
      only = λ n live out none. only_row row (line_text line) id.0 old new number e n live none;
      all = λ p other f. inl f;
      count = omega arith;
      each = λ n i. absurd (true≢false (sym i));
    }

pub reduces_more : (lists : Lists) (a b c : Derived) (x y z : Deletions) (xs ys : List RowNo) → Reduces lists a b x y xs → Reduces lists b c y z ys → Reduces lists a c x z (xs ++ ys)
reduces_more lists a b c x y z xs ys g h = record {
  can = h.can;
  goes_on = goes_further a b c g.goes_on h.goes_on;
  kept = kept_further a b c g.kept h.kept;
  few = omega (arith, g.few, h.few, length-append xs ys);
  stays = λ p id e. h.stays p id (g.stays p id e);
  ids = g.ids ++ h.ids;
  later = λ n i. elim (or_cases (is_in n g.ids) (is_in n h.ids) (sym (is_in-append n g.ids h.ids) ∙ i)) [
    | inl e ↦ let one = g.later n e in (one.0, omega (arith, one.1, h.goes_on.later))
    | inr e ↦ let two = h.later n e in (omega (arith, g.goes_on.later, two.0), two.1)
  ];
  held = h.held ∙ ap (keeping h.ids) g.held ∙ ap (λ (ns : List ℕ). record a.held { kept = ns }) (append_assoc a.held.kept g.ids h.ids);
  notes = units_further g.ids h.ids a b c x y z g.notes h.notes;
  offers = made_further a b c xs ys g.goes_on h.goes_on h.kept g.offers h.offers;
  apart = λ n i j.
      elim (or_cases (is_in n g.ids) (is_in n h.ids) (sym (is_in-append n g.ids h.ids) ∙ i)) [
        | inl e ↦ elim (or_cases (is_in n (row_numbers xs)) (is_in n (row_numbers ys)) (sym (numbers_in n xs ys) ∙ j)) [
          | inl f ↦ g.apart n e f
          | inr f ↦ let one = g.later n e in let two = h.offers.each n f in omega (arith, one.1, two.0)
        ]
        | inr e ↦ elim (or_cases (is_in n (row_numbers xs)) (is_in n (row_numbers ys)) (sym (numbers_in n xs ys) ∙ j)) [
          | inl f ↦ let one = g.offers.each n f in let two = h.later n e in omega (arith, one.1, two.0)
          | inr f ↦ h.apart n e f
        ]
      ];
  only = λ n live out none.
      let units = or_parts (is_in n g.ids) (is_in n h.ids) (sym (is_in-append n g.ids h.ids) ∙ out) in
      let others = or_parts (is_in n (row_numbers xs)) (is_in n (row_numbers ys)) (sym (numbers_in n xs ys) ∙ none) in
      g.only n (h.only n live units.1 others.1) units.0 others.0;
  all = λ p id e.
      elim (h.all p id e) [
        | inl f ↦ elim (g.all p id f) [
          | inl k ↦ inl k
          | inr k ↦ inr (is_in-append id.0 g.ids h.ids ∙ or_left (is_in id.0 g.ids) (is_in id.0 h.ids) k)
        ]
        | inr k ↦ inr (is_in-append id.0 g.ids h.ids ∙ or_right (is_in id.0 g.ids) (is_in id.0 h.ids) k)
      ];
  count = omega (arith, g.count, h.count, length-append g.ids h.ids);
  each = λ n i.
      elim (or_cases (is_in n g.ids) (is_in n h.ids) (sym (is_in-append n g.ids h.ids) ∙ i)) [
        | inl e ↦ let found = g.each n e in (found.0, h.stays found.0 (row_no n) found.1)
        | inr e ↦ h.each n e
      ];
}

-- ---- one pair is tried

pub left_of : (lists : Lists) (d : Derived) (deletions : Deletions) (p : ℕ) → CanReduce lists d deletions → IsPairNo lists p → is_deleted deletions p ≡ false → deleted_count deletions + 1 ≤ pair_count lists
left_of lists d deletions p can p_is e =
    omega (arith, one_left deletions p (row_no 0) p_is.0 (omega (arith, can.pairs, p_is.1)) (absent_from (unit_row_no deletions p) e), can.pairs)

-- one more is deleted
pub is_one_more : (old new : Derived) (before after : Deletions) (p : ℕ) → 1 ≤ p → p ≤ length before → is_deleted before p ≡ false → Deletes old new before after p → IsOneMore before after p
is_one_more old new before after p first last e d = record {
  gone = ap is_some (ap (λ (m : Deletions). unit_row_no m p) d.marked ∙ marked_here before p (row_no d.id) first last);
  others = λ q other. ap is_some (ap (λ (m : Deletions). unit_row_no m q) d.marked ∙ marked_other before p (row_no d.id) first last q other);
  size = ap length d.marked ∙ length-set before (p - 1) (Some (row_no d.id));
  count = ap deleted_count d.marked ∙ marked_count before p (row_no d.id) first last (absent_from (unit_row_no before p) e);
}

-- ---- the end

pub are_gone : (lists at : Lists) (d : Derived) (deletions : Deletions) → lists ≡ at → CanReduce lists d deletions → ((p : ℕ) → IsPairNo lists p → IsClosedTo lists deletions p) → AreGone at (is_deleted deletions)
are_gone lists at d deletions same can closed = subst (λ (l : Lists). AreGone l (is_deleted deletions)) same (gone_exact lists (is_deleted deletions) can.gone closed)

pub are_in_none : (lists at : Lists) (d : Derived) (deletions : Deletions) → lists ≡ at → CanReduce lists d deletions → AreInNone at deletions
are_in_none lists at d deletions same can = subst (λ (l : Lists). AreInNone l deletions) same (λ m p s e. gone_in_none lists m p s (can.gone p e))

pub none_counted : (n : ℕ) → deleted_count (replicate n None) ≡ 0
none_counted n = let e = sum_by-replicate (λ (o : Option RowNo). if is_some o then 1 else 0) n None in omega (arith, e)

pub none_at : (n p : ℕ) → unit_row_no (replicate n None) p ≡ None
none_at n zero = refl
none_at zero (suc k) = refl
none_at (suc n) (suc zero) = refl
none_at (suc n) (suc (suc k)) = none_at n (suc k)

-- ---- the start

none_there : (n p : ℕ) → is_deleted (replicate n None) p ≡ true → ⊥
none_there n p e = true≢false (sym e ∙ ap is_some (none_at n p))

can_first : (lists : Lists) (d : Derived) → lists ≡ d.lists → IsReady d → CanReduce lists d (replicate (pair_count lists) None)
can_first lists d same ready = record {
  same = same;
  ready = ready;
  units = λ p. subst (λ (o : Option RowNo). IfSome o (λ id. row_of id.0 d.state.live ≡ Some (unit_row p))) (sym (none_at (pair_count lists) p)) tt;
  pairs = length-replicate (pair_count lists) None;
  gone = λ p e. absurd (none_there (pair_count lists) p e);
}

pub reduces_first : (lists at : Lists) (d : Derived) (n : ℕ) (deletions : Deletions) → lists ≡ d.lists → at ≡ d.lists → IsReady d → n ≡ pair_count at → deletions ≡ replicate n None →
    Reduces lists d d (replicate (pair_count lists) None) deletions []
reduces_first lists at d n deletions same again ready count is =
    let all : deletions ≡ replicate (pair_count lists) None = is ∙ ap (λ (k : ℕ). replicate k None) (count ∙ ap pair_count (again ∙ sym same)) in
    subst (λ (m : Deletions). Reduces lists d d (replicate (pair_count lists) None) m []) (sym all) (reduces_none lists d (replicate (pair_count lists) None) (can_first lists d same ready))

-- ---- the rows that can still be made

pub room_for_ones : (lists : Lists) (old new : Derived) (before after : Deletions) → Reduces lists old new before after [] → HasRoom 0 lists old before → HasRoom 0 lists new after
room_for_ones lists old new before after r room = omega (arith, room, r.few, r.goes_on.later, r.can.pairs, count_by-le-length is_some after)

pub ones_further : (lists : Lists) (old now : Derived) (before between : Deletions) (n : ℕ) → Reduces lists old now before between [] → n ≤ now.state.next + (pair_count lists - deleted_count between) → n ≤ old.state.next + (pair_count lists - deleted_count before)
ones_further lists old now before between n r few = omega (arith, few, r.few, r.goes_on.later, r.can.pairs, count_by-le-length is_some between)
