-- The rows between two numbers are deleted.
use Rattle.std.proofs.Common.{◌≡◌, ◌<◌, ◌≤◌, ◌+◌, ◌^◌, ◌==◌, ℕ, Bool, true, false, not, nat_le, nat_lt, List, [], ◌∷◌, cond, if◌then◌else◌, get_or, refl, sym, ap, ◌∙◌, subst, inl, inr, arith}
use Rattle.std.specs.Prelude.{IsOk, Ok, Err, is_ok}
use Rattle.std.specs.List.{All}
use Rattle.std.proofs.lemmas.Bool.{and_from, and_parts, cases_lt, eq-eqb, eqb-true, false_from_ne_true, le-leb, leb-true, lt-ltb, ltb-true, not-true, or_cases, or_left, or_right, true≢false}
use Rattle.std.proofs.lemmas.List.Elements.{All-cons, All-nil}
use Rattle.hrt_base.specs.declared.numbered.RowNo.{RowNo}
use Rattle.pb_rows.specs.Formula.{NumberedRow, is_numbered, row_of, without}
use Rattle.rank_tables.specs.Numbers.{is_distinct, is_in}
use Rattle.proof_lines.specs.declared.line.Line.TheVariants.{Del}
use Rattle.proof_rules.specs.Refusals.{BadId}
use Rattle.proof_rules.specs.Held.{row_numbers}
use Rattle.proof_rules.specs.States.{State, deleted}
use Rattle.proof_rules.proofs.HeldLive.{numbered-without}
use Rattle.proof_rules.proofs.Made.{made_if}
use Rattle.derivation.specs.Derived.{Derived, StaysValid}
use Rattle.derivation.specs.Pieces.{ALine, IsCutPiece}
use Rattle.derivation.specs.Ready.{IsReady, IsSpare}
use Rattle.derivation.specs.Steps.{IsWritable, Takes}
use Rattle.derivation.proofs.Forgotten.{del_leads, row-deleted}
use Rattle.derivation.proofs.Writable.{del_writable}
use Rattle.conflict_cuts.specs.Forgetting.{AreBetween, CanForgetBetween, ForgetsBetween}

-- ---- numbers of a list

pub all_in : (P : ℕ → Type 0) (ids : List RowNo) → ((n : ℕ) → is_in n (row_numbers ids) ≡ true → P n) → All (λ (id : RowNo). P id.0) ids
all_in P [] h = All-nil (λ (id : RowNo). P id.0)
all_in P (x ∷ ids) h = All-cons (λ (id : RowNo). P id.0) x ids (h x.0 (or_left _ _ (eq-eqb x.0 x.0 refl))) (all_in P ids (λ n i. h n (or_right _ _ i)))

-- ---- rows that are deleted

fewer_step : (n : ℕ) (b : Bool) (entry : NumberedRow) (rest live : List NumberedRow) → (is_numbered n rest ≡ true → is_numbered n live ≡ true) → is_numbered n (cond b (entry ∷ rest) rest) ≡ true → is_numbered n (entry ∷ live) ≡ true
fewer_step n true entry rest live h i = elim (or_cases (entry.number == n) (is_numbered n rest) i) [ inl s ↦ or_left _ _ s | inr s ↦ or_right _ _ (h s) ]
fewer_step n false entry rest live h i = or_right _ _ (h i)

fewer : (n k : ℕ) (live : List NumberedRow) → is_numbered n (without k live) ≡ true → is_numbered n live ≡ true
fewer n k [] i = i
fewer n k (entry ∷ live) i = fewer_step n (not (entry.number == k)) entry (without k live) live (fewer n k live) i

left_were : (n : ℕ) (ids : List RowNo) (live left : List NumberedRow) → deleted ids live ≡ Ok left → is_numbered n left ≡ true → is_numbered n live ≡ true
left_were n [] live left e i = let same : live ≡ left = cc in subst (λ (l : List NumberedRow). is_numbered n l ≡ true) (sym same) i
left_were n (x ∷ ids) live left e i = fewer n x.0 live (left_were n ids (without x.0 live) left (made_if (is_numbered x.0 live) _ _ left e).1 i)

none_step : (n : ℕ) (b : Bool) (entry : NumberedRow) (rest : List NumberedRow) → (entry.number == n) ≡ b → is_numbered n rest ≡ false → is_numbered n (cond (not b) (entry ∷ rest) rest) ≡ false
none_step n true entry rest e h = h
none_step n false entry rest e h = rw (e, h) refl

none_without : (n : ℕ) (live : List NumberedRow) → is_numbered n (without n live) ≡ false
none_without n [] = refl
none_without n (entry ∷ live) = none_step n (entry.number == n) entry (without n live) refl (none_without n live)

gone : (n : ℕ) (ids : List RowNo) (live left : List NumberedRow) → deleted ids live ≡ Ok left → is_in n (row_numbers ids) ≡ true → is_numbered n left ≡ false
gone n [] live left e i = absurd (cc)
gone n (x ∷ ids) live left e i =
    let rest = (made_if (is_numbered x.0 live) _ _ left e).1 in
    elim (or_cases (x.0 == n) (is_in n (row_numbers ids)) i) [
      | inl s ↦
          let same : x.0 ≡ n = eqb-true x.0 n s in
          let none : is_numbered n (without x.0 live) ≡ false = subst (λ (k : ℕ). is_numbered n (without k live) ≡ false) (sym same) (none_without n live) in
          false_from_ne_true (is_numbered n left) (λ t. true≢false (sym (left_were n ids (without x.0 live) left rest t) ∙ none))
      | inr s ↦ gone n ids (without x.0 live) left rest s
    ]

can_delete : (ids : List RowNo) (live : List NumberedRow) → is_distinct (row_numbers ids) ≡ true → ((n : ℕ) → is_in n (row_numbers ids) ≡ true → is_numbered n live ≡ true) → is_ok (deleted ids live) ≡ true
can_delete [] live d h = refl
can_delete (x ∷ ids) live d h =
    let parts = and_parts (not (is_in x.0 (row_numbers ids))) (is_distinct (row_numbers ids)) d in
    let apart : (n : ℕ) → is_in n (row_numbers ids) ≡ true → x.0 ≡ n → ⊥ =
    λ n i e. true≢false (sym i ∙ ap (λ (k : ℕ). is_in k (row_numbers ids)) (sym e) ∙ not-true (is_in x.0 (row_numbers ids)) parts.0) in
    let here : is_numbered x.0 live ≡ true = h x.0 (or_left _ _ (eq-eqb x.0 x.0 refl)) in
    ap (λ (b : Bool). is_ok (if b then deleted ids (without x.0 live) else Err (BadId x.0))) here
    ∙ can_delete ids (without x.0 live) parts.1 (λ n i. numbered-without n x.0 (apart n i) live ∙ h n (or_right _ _ i))

-- ---- the call

module _ (first last : ℕ) (ids : List RowNo) (old : Derived) (some : first < last) (are : AreBetween first last ids) (can : CanForgetBetween first last old) where
  within : (n : ℕ) → is_in n (row_numbers ids) ≡ true → (first ≤ n) × (n < last)
  within n i = let parts = and_parts (nat_le first n) (nat_lt n last) (sym (are.each n) ∙ i) in (leb-true first n parts.0, ltb-true n last parts.1)

  pub forget_writable : last ≤ first + 100000 → last ≤ 10 ^ 18 → IsWritable (Del ids)
  forget_writable few top = del_writable ids (omega (arith, are.count, some)) (omega (arith, are.count, few)) (λ n i. let w = within n i in (omega (arith, w.0, can.behind_model), omega (arith, w.1, top)))

  pub forget_live : IsOk (deleted ids old.state.live)
  forget_live = can_delete ids old.state.live are.distinct (λ n i. let w = within n i in can.live n w.0 w.1)

  pub forget_spare : All (IsSpare old) ids
  forget_spare = λ i d l. let w = within (get_or ids i d).0 (all_in (λ n. is_in n (row_numbers ids) ≡ true) ids (λ n h. h) i d l) in record { not_held = can.not_held (get_or ids i d).0 w.0; behind_model = omega (arith, w.0, can.behind_model) }

  outside : (n : ℕ) → (n < first → ⊥) → (n < last → ⊥) → last ≤ n
  outside n a b = elim (cases_lt n last) [ inl l ↦ absurd (b l) | inr g ↦ g ]

  pub forgets : (new : Derived) → IsWritable (Del ids) → IsReady old → Takes (Del ids) old new → StaysValid old new → IsReady new → ForgetsBetween first last old new
  forgets new writable ready takes valid ready_new =
      let led = del_leads (deleted ids old.state.live) old.state new.state takes.step.leads in
      let live_is : new.state.live ≡ led.0 = ap (λ (s : State). s.live) led.2 in
      record {
        pieces = ALine (Del ids) ∷ [];
        adds = (new, record { writable = writable; unconcluded = ready.unconcluded; takes = takes }, refl);
        cuts = All-cons (IsCutPiece old.held first) (ALine (Del ids)) [] (all_in (λ n. first ≤ n) ids (λ n i. (within n i).0)) (All-nil (IsCutPiece old.held first));
        valid = valid;
        ready = ready_new;
        held = ap (λ (d : Derived). d.held) takes.is;
        lists = ap (λ (d : Derived). d.lists) takes.is;
        least = ap (λ (s : State). s.least) led.2;
        next = ap (λ (s : State). s.next) led.2;
        below = λ n l. ap (row_of n) live_is ∙ row-deleted n ids old.state.live led.0 (all_in (λ k. k ≡ n → ⊥) ids (λ k i e. let w = within k i in omega (arith, w.0, l, e))) led.1;
        above = λ n l. ap (row_of n) live_is ∙ row-deleted n ids old.state.live led.0 (all_in (λ k. k ≡ n → ⊥) ids (λ k i e. let w = within k i in omega (arith, w.1, l, e))) led.1;
        gone = λ n l i.
            let left : is_numbered n led.0 ≡ true = sym (ap (is_numbered n) live_is) ∙ i in (
              elim (cases_lt n last) [
                | inl lt ↦ absurd (true≢false (sym left ∙ gone n ids old.state.live led.0 led.1 (are.each n ∙ and_from (nat_le first n) (nat_lt n last) (le-leb first n l) (lt-ltb n last lt))))
                | inr ge ↦ ge
              ],
              left_were n ids old.state.live led.0 led.1 left,
            );
      }
