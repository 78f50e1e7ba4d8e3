-- Rows that serve the deletions of a visit, and the pair from which on they do.
use Rattle.std.proofs.Common.{◌≡◌, ℕ, ◌≤◌, Bool, true, false, ◌&&◌, List, [], ◌∷◌, ◌++◌, nat_lt, count_by, refl, sym, ap, ◌∙◌, subst, inl, inr, arith}
use Rattle.std.specs.Prelude.{IfSome, None, Option, Some}
use Rattle.std.proofs.lemmas.Bool.{false_from_ne_true, lt-ltb, ltb-true, true≢false}
use Rattle.hrt_base.specs.declared.numbered.PairNo.{PairNo}
use Rattle.pb_rows.specs.Closure.{Implies}
use Rattle.pb_rows.specs.Formula.{NumberedRow}
use Rattle.rank_tables.specs.Numbers.{is_in}
use Rattle.rank_tables.specs.Instance.{Lists, capacity_of, pair_at, rising_pairs_of_hospital, rank_by_hospital}
use Rattle.rank_tables.specs.Tables.{IsPairNo}
use Rattle.stability_model.proofs.Counts.{count_by_le}
use Rattle.proof_rules.specs.States.{live_rows}
use Rattle.derivation.specs.Deletions.{Deletions, is_deleted, unit_row}
use Rattle.derivation.specs.Derived.{Derived}
use Rattle.pair_reduction.specs.declared.sides.Side.{Side}
use Rattle.pair_reduction.specs.declared.sides.Side.TheVariants.{Resident, Hospital}
use Rattle.pair_reduction.specs.declared.known.Known.{Known}
use Rattle.pair_reduction.specs.Flags.{is_marked}
use Rattle.pair_reduction.specs.Known.{ArePassed}
use Rattle.pair_reduction.specs.Reduced.{CanReduce, KeepsLive}
use Rattle.pair_reduction.specs.Served.{FirstOf, IsDue, IsFirst, IsServed}
use Rattle.pair_reduction.specs.Sides.{is_free, is_passed, list_of, other, pairs_on, rank_on}
use Rattle.pair_reduction.proofs.Implied.{implied_by_a, implied_by_b}
use Rattle.pair_reduction.proofs.TwoSides.{is_declared, listed, rule_a-passed}
use Rattle.pair_reduction.proofs.Visiting.{Deleting, one_of_more}

-- ---- rows

pub served_kept : (side : Side) (lists : Lists) (old new : Derived) (w : ℕ) → KeepsLive old new → IsServed side lists old.state.live w → IsServed side lists new.state.live w
served_kept Resident lists old new w kept s = tt
served_kept Hospital lists old new w kept s = record { offered = s.offered; enough = s.enough; rows = λ q i o. let row = s.rows q i o in (row.0, kept row.0 _ row.1) }

still_before : (x y z : ℕ) (b : Bool) → y ≤ z → (nat_lt x y && b) ≡ true → (nat_lt x z && b) ≡ true
still_before x y z true le h = subst (λ (c : Bool). (c && true) ≡ true) (sym (lt-ltb x z (let l = ltb-true x y (at (nat_lt x y) h) in omega arith))) refl
  where
    at : (b : Bool) → (b && true) ≡ true → b ≡ true
    at true e = refl
    at false e = e
still_before x y z false le h = absurd (none (nat_lt x y) h)
  where
    none : (b : Bool) → (b && false) ≡ true → ⊥
    none true e = true≢false (sym e)
    none false e = true≢false (sym e)

pub served_lower : (side : Side) (lists : Lists) (live : List NumberedRow) (p w : ℕ) → list_of side lists p ≡ list_of side lists w → rank_on side lists p ≤ rank_on side lists w → IsServed side lists live p → IsServed side lists live w
served_lower Resident lists live p w same le s = tt
served_lower Hospital lists live p w same le s = record {
  offered = s.offered;
  enough =
      subst (λ (h : ℕ). capacity_of lists h ≤ count_by (λ q. nat_lt (rank_by_hospital lists q) (rank_by_hospital lists w) && s.offered q) (rising_pairs_of_hospital lists h)) same
      (let more = count_by_le (λ q. nat_lt (rank_by_hospital lists q) (rank_by_hospital lists p) && s.offered q) (λ q. nat_lt (rank_by_hospital lists q) (rank_by_hospital lists w) && s.offered q) (rising_pairs_of_hospital lists (pair_at lists p).hospital)
      (λ q i h. still_before (rank_by_hospital lists q) (rank_by_hospital lists p) (rank_by_hospital lists w) (s.offered q) le h) in
      let enough = s.enough in
      omega arith);
  rows = s.rows;
}

pub shown_implies : (side : Side) (lists : Lists) (d : Derived) (deletions : Deletions) (w : ℕ) → CanReduce lists d deletions → IsPairNo lists w → is_passed side lists (is_free (other side) lists (is_deleted deletions)) w ≡ true → IsServed side lists d.state.live w → Implies (live_rows d.state) (unit_row w)
shown_implies Resident lists d deletions w can w_is rule s = implied_by_a lists d deletions w can.same can.ready can.units w_is (is_declared Resident lists w w_is) (rule_a-passed lists (is_deleted deletions) w ∙ rule)
shown_implies Hospital lists d deletions w can w_is rule s = implied_by_b lists d w can.same can.ready w_is (is_declared Hospital lists w w_is) s

-- ---- the first

pub first_kept : (side : Side) (lists : Lists) (known : Known) (n : ℕ) (ps : List ℕ) (w : ℕ) (o : Option PairNo) → (IsDue side lists known n w → ⊥) → FirstOf side lists known n ps o → FirstOf side lists known n (ps ++ w ∷ []) o
first_kept side lists known n ps w None apart f = λ v i due. elim (one_of_more v w ps (ps ++ w ∷ []) refl i) [
  | inl e ↦ f v e due
  | inr e ↦ apart (subst (IsDue side lists known n) e due)
]
first_kept side lists known n ps w (Some p) apart f = record {
  due = f.due;
  least = λ v i due. elim (one_of_more v w ps (ps ++ w ∷ []) refl i) [
    | inl e ↦ f.least v e due
    | inr e ↦ absurd (apart (subst (IsDue side lists known n) e due))
  ];
}

pub first_met : (side : Side) (lists : Lists) (known : Known) (n : ℕ) (ps : List ℕ) (w : ℕ) → IsDue side lists known n w → FirstOf side lists known n ps None → IsFirst side lists known n (ps ++ w ∷ []) w
first_met side lists known n ps w due f = record {
  due = due;
  least = λ v i other_due. elim (one_of_more v w ps (ps ++ w ∷ []) refl i) [
    | inl e ↦ absurd (f v e other_due)
    | inr e ↦ let same : rank_on side lists v ≡ rank_on side lists w = ap (rank_on side lists) e in omega arith
  ];
}

pub first_stays : (side : Side) (lists : Lists) (known : Known) (n : ℕ) (ps : List ℕ) (w p : ℕ) → rank_on side lists p ≤ rank_on side lists w → IsFirst side lists known n ps p → IsFirst side lists known n (ps ++ w ∷ []) p
first_stays side lists known n ps w p le f = record {
  due = f.due;
  least = λ v i due. elim (one_of_more v w ps (ps ++ w ∷ []) refl i) [
    | inl e ↦ f.least v e due
    | inr e ↦ let same : rank_on side lists v ≡ rank_on side lists w = ap (rank_on side lists) e in omega arith
  ];
}

pub first_yields : (side : Side) (lists : Lists) (known : Known) (n : ℕ) (ps : List ℕ) (w p : ℕ) → rank_on side lists w ≤ rank_on side lists p → IsDue side lists known n w → IsFirst side lists known n ps p → IsFirst side lists known n (ps ++ w ∷ []) w
first_yields side lists known n ps w p le due f = record {
  due = due;
  least = λ v i other_due. elim (one_of_more v w ps (ps ++ w ∷ []) refl i) [
    | inl e ↦ omega (arith, f.least v e other_due)
    | inr e ↦ let same : rank_on side lists v ≡ rank_on side lists w = ap (rank_on side lists) e in omega arith
  ];
}

pub first_as : (side : Side) (lists : Lists) (known : Known) (n : ℕ) (ps qs : List ℕ) (o : Option PairNo) → ((p : ℕ) → is_in p qs ≡ is_in p ps) → FirstOf side lists known n ps o → FirstOf side lists known n qs o
first_as side lists known n ps qs None alike f = λ w i due. f w (sym (alike w) ∙ i) due
first_as side lists known n ps qs (Some p) alike f = record { due = f.due; least = λ w i due. f.least w (sym (alike w) ∙ i) due }

pub first_more : (side : Side) (lists : Lists) (known : Known) (n m : ℕ) (ps more : List ℕ) (w : ℕ) (one two : Option PairNo) → m ≡ n → more ≡ ps ++ w ∷ [] → FirstOf side lists known n ps one → ((qs : List ℕ) → FirstOf side lists known m qs one → FirstOf side lists known m (qs ++ w ∷ []) two) → FirstOf side lists known n more two
first_more side lists known n m ps more w one two on e f step =
    subst (λ (xs : List ℕ). FirstOf side lists known n xs two) (sym e) (subst (λ (k : ℕ). FirstOf side lists known k (ps ++ w ∷ []) two) on (step ps (subst (λ (k : ℕ). FirstOf side lists known k ps one) (sym on) f)))

pub first_within : (side : Side) (lists : Lists) (known : Known) (n : ℕ) (ps : List ℕ) (o : Option PairNo) → FirstOf side lists known n ps o → IfSome o (λ p. IsPairNo lists p.0)
first_within side lists known n ps None f = tt
first_within side lists known n ps (Some p) f = f.due.number

true_or_false : (b : Bool) → (b ≡ false → ⊥) → b ≡ true
true_or_false true h = refl
true_or_false false h = absurd (h refl)

pub none_due : (side : Side) (lists : Lists) (known : Known) (n : ℕ) → FirstOf side lists known n (pairs_on side lists n) None → ArePassed side lists known n
none_due side lists known n f w w_is on h =
    true_or_false (is_deleted known.gone w) (λ left. f w (ap (λ (k : ℕ). is_in w (pairs_on side lists k)) (sym on) ∙ listed side lists w w_is) (record { number = w_is; list = on; passed = h; left = left }))

-- ---- the pairs of the list of the first

pub same_list : (side : Side) (inst lists : Lists) (p w list : ℕ) → inst ≡ lists → list ≡ list_of side inst p → list_of side inst w ≡ list → list_of side lists w ≡ list_of side lists p
same_list side inst lists p w list e here on = subst (λ (l : Lists). list_of side l w ≡ list_of side l p) e (on ∙ here)

pub served_now : (side : Side) (lists : Lists) (start now : Known) (old new : Derived) (p w : ℕ) (ps : List ℕ) → IsFirst side lists start (list_of side lists p) (pairs_on side lists (list_of side lists p)) p → IsServed side lists old.state.live p → KeepsLive old new → Deleting side lists start now ps → list_of side lists w ≡ list_of side lists p → IsDue side lists now (list_of side lists w) w → IsServed side lists new.state.live w
served_now side lists start now old new p w ps first served kept deleting on due =
    served_lower side lists new.state.live p w (sym on)
    (first.least w (ap (λ (k : ℕ). is_in w (pairs_on side lists k)) (sym on) ∙ listed side lists w due.number) (record {
      number = due.number;
      list = on;
      passed = ap (λ (m : List Bool). is_passed side lists (is_marked m) w) (sym (deleting.unmarked (other side))) ∙ due.passed;
      left = false_from_ne_true (is_deleted start.gone w) (λ h. true≢false (sym (deleting.grows w h) ∙ due.left));
    }))
    (served_kept side lists old new p kept served)

-- ---- from the calls

pub first_of : (side : Side) (inst lists : Lists) (known : Known) (n : ℕ) (o : Option PairNo) (p : PairNo) → inst ≡ lists → o ≡ Some p → FirstOf side inst known n (pairs_on side inst n) o → IsFirst side lists known n (pairs_on side lists n) p.0
first_of side inst lists known n o p e f first =
    subst (λ (l : Lists). IsFirst side l known n (pairs_on side l n) p.0) e (subst (FirstOf side inst known n (pairs_on side inst n)) f first)

pub none_of : (side : Side) (inst lists : Lists) (known : Known) (n : ℕ) (o : Option PairNo) → inst ≡ lists → o ≡ None → FirstOf side inst known n (pairs_on side inst n) o → ArePassed side lists known n
none_of side inst lists known n o e f first =
    subst (λ (l : Lists). ArePassed side l known n) e (none_due side inst known n (subst (FirstOf side inst known n (pairs_on side inst n)) f first))

pub own_first : (side : Side) (lists : Lists) (known : Known) (n p : ℕ) → IsFirst side lists known n (pairs_on side lists n) p → IsFirst side lists known (list_of side lists p) (pairs_on side lists (list_of side lists p)) p
own_first side lists known n p first = subst (λ (k : ℕ). IsFirst side lists known k (pairs_on side lists k) p) (sym first.due.list) first
