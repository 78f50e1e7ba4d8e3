-- Rows that were made for a while are forgotten.
use Rattle.std.proofs.Common.{◌≡◌, ℕ, zero, suc, ◌<◌, ◌≤◌, ◌^◌, Bool, true, false, not, ◌||◌, ◌==◌, List, [], ◌∷◌, ◌++◌, if◌then◌else◌, length, cond, refl, sym, ap, ◌∙◌, subst, inl, inr, arith}
use Rattle.std.specs.Prelude.{Option, Some, Result, Ok, Err, IsOk, is_ok}
use Rattle.std.proofs.lemmas.Bool.{and_parts, eq-eqb, eqb-true, false_from_ne_true, not-true, or_cases, or_parts, or_left, or_right, true≢false}
use Rattle.hrt_base.specs.declared.numbered.RowNo.{RowNo}
use Rattle.pb_rows.specs.Terms.{PlainRow}
use Rattle.pb_rows.specs.Formula.{NumberedRow, is_numbered, row_of, without}
use Rattle.rank_tables.specs.Numbers.{is_distinct, is_in}
use Rattle.proof_lines.specs.declared.line.Line.TheVariants.{Del}
use Rattle.proof_lines.specs.Texts.{line_text}
use Rattle.proof_rules.specs.Refusals.{BadId, Refusal, and_then}
use Rattle.proof_rules.specs.Held.{row_numbers}
use Rattle.proof_rules.specs.States.{IsInOrder, State, deleted}
use Rattle.proof_rules.proofs.HeldLive.{numbered-without}
use Rattle.derivation.specs.Derived.{Derived, StaysValid}
use Rattle.derivation.specs.Ready.{IsReady}
use Rattle.derivation.specs.Steps.{IsWritable, Takes}
use Rattle.pair_reduction.specs.Reduced.{CanForget, Forgets}
use Rattle.pair_reduction.proofs.Added.{adds_del, adds_nothing}
use Rattle.pair_reduction.proofs.GoingOn.{goes_nowhere, numbered_row}
use Rattle.proof_rules.proofs.Numbers.{live_within}

-- ---- rows by number

kept_step : (b e : Bool) (entry : NumberedRow) (one two : Option PlainRow) → (b ≡ true → e ≡ false) → one ≡ two → (if e then Some entry.row else two) ≡ (if e then Some entry.row else one)
kept_step b e entry one two h k = ap (λ (o : Option PlainRow). if e then Some entry.row else o) (sym k)

other_entry : (n k : ℕ) (b : Bool) (entry : NumberedRow) (live : List NumberedRow) → (entry.number == k) ≡ b → (k ≡ n → ⊥) → row_of n (without k live) ≡ row_of n live → row_of n (cond (not b) (entry ∷ without k live) (without k live)) ≡ row_of n (entry ∷ live)
other_entry n k true entry live e other h =
    let differs : (entry.number == n) ≡ false = false_from_ne_true (entry.number == n) (λ f. other (sym (eqb-true entry.number k e) ∙ eqb-true entry.number n f)) in
    h ∙ ap (λ (b : Bool). if b then Some entry.row else row_of n live) (sym differs)
other_entry n k false entry live e other h = ap (λ (o : Option PlainRow). if entry.number == n then Some entry.row else o) h

pub row_without : (n k : ℕ) (live : List NumberedRow) → (k ≡ n → ⊥) → row_of n (without k live) ≡ row_of n live
row_without n k [] other = refl
row_without n k (entry ∷ live) other = other_entry n k (entry.number == k) entry live refl other (row_without n k live other)

-- ---- several

pub record Leaves (ids : List RowNo) (live : List NumberedRow) : Type 0 where
  pub left : List NumberedRow
  pub is : deleted ids live ≡ Ok left
  pub others : (n : ℕ) → is_in n (row_numbers ids) ≡ false → row_of n left ≡ row_of n live
  pub only : (n : ℕ) → is_numbered n left ≡ true → (is_numbered n live ≡ true) × (is_in n (row_numbers ids) ≡ false)

left_entry : (n k : ℕ) (b : Bool) (entry : NumberedRow) (live : List NumberedRow) → (entry.number == k) ≡ b → (is_numbered n (without k live) ≡ true → (is_numbered n live ≡ true) × ((k == n) ≡ false)) →
    is_numbered n (cond (not b) (entry ∷ without k live) (without k live)) ≡ true → (is_numbered n (entry ∷ live) ≡ true) × ((k == n) ≡ false)
left_entry n k true entry live e h i = let rest = h i in (or_right (entry.number == n) (is_numbered n live) rest.0, rest.1)
left_entry n k false entry live e h i = elim (or_cases (entry.number == n) (is_numbered n (without k live)) i) [
  | inl f ↦ (
    or_left (entry.number == n) (is_numbered n live) f,
    false_from_ne_true (k == n) (λ g. true≢false (sym (eq-eqb entry.number k (eqb-true entry.number n f ∙ sym (eqb-true k n g))) ∙ e)),
  )
  | inr f ↦ let rest = h f in (or_right (entry.number == n) (is_numbered n live) rest.0, rest.1)
]

left_of_one : (n k : ℕ) (live : List NumberedRow) → is_numbered n (without k live) ≡ true → (is_numbered n live ≡ true) × ((k == n) ≡ false)
left_of_one n k [] i = absurd (true≢false (sym i))
left_of_one n k (entry ∷ live) i = left_entry n k (entry.number == k) entry live refl (left_of_one n k live) i

pub leaves : (ids : List RowNo) (live : List NumberedRow) → is_distinct (row_numbers ids) ≡ true → ((n : ℕ) → is_in n (row_numbers ids) ≡ true → is_numbered n live ≡ true) → Leaves ids live
leaves [] live d h = record { left = live; is = refl; others = λ n i. refl; only = λ n i. (i, refl) }
leaves (x ∷ ids) live d h =
    let parts = and_parts (not (is_in x.0 (row_numbers ids))) (is_distinct (row_numbers ids)) d in
    let apart : (n : ℕ) → is_in n (row_numbers ids) ≡ true → x.0 ≡ n → ⊥ =
    λ n i e. true≢false (sym i ∙ ap (λ (k : ℕ). is_in k (row_numbers ids)) (sym e) ∙ not-true (is_in x.0 (row_numbers ids)) parts.0) in
    let rest = leaves ids (without x.0 live) parts.1 (λ n i. numbered-without n x.0 (apart n i) live ∙ h n (or_right (x.0 == n) (is_in n (row_numbers ids)) i)) in
    record {
      left = rest.left;
      is = ap (λ (b : Bool). if b then deleted ids (without x.0 live) else Err (BadId x.0)) (h x.0 (or_left (x.0 == x.0) (is_in x.0 (row_numbers ids)) (eq-eqb x.0 x.0 refl))) ∙ rest.is;
      others = λ n i.
          let two = or_parts (x.0 == n) (is_in n (row_numbers ids)) i in
          rest.others n two.1 ∙ row_without n x.0 live (λ e. true≢false (sym (eq-eqb x.0 n e) ∙ two.0));
      only = λ n i.
          let later = rest.only n i in
          let here = left_of_one n x.0 live later.0 in
          (here.0, ap (λ (b : Bool). b || is_in n (row_numbers ids)) here.1 ∙ later.1);
    }

-- ---- the call

pub forget_asks : (ids : List RowNo) (d : Derived) → CanForget ids d → IsOk (deleted ids d.state.live)
forget_asks ids d can = let l = leaves ids d.state.live can.distinct can.live in ap (λ (r : Result (List NumberedRow) Refusal). is_ok r) l.is

pub numbers_within : (ids : List RowNo) (d : Derived) → CanForget ids d → IsInOrder d.state → d.state.next ≤ 10 ^ 18 → (n : ℕ) → is_in n (row_numbers ids) ≡ true → (1 ≤ n) × (n < 10 ^ 18)
numbers_within ids d can order few n i =
    let found = numbered_row n d.state.live (can.live n i) in
    let place = live_within n d.state.next found.0 d.state.live order found.1 in
    (place.0, omega (arith, place.1))

-- what is left after it
pub record Forgot (ids : List RowNo) (old new : Derived) : Type 0 where
  pub lists : new.lists ≡ old.lists
  pub claim : new.claim ≡ old.claim
  pub held : new.held ≡ old.held
  pub least : new.state.least ≡ old.state.least
  pub next : new.state.next ≡ old.state.next
  pub others : (n : ℕ) → is_in n (row_numbers ids) ≡ false → row_of n new.state.live ≡ row_of n old.state.live
  pub only : (n : ℕ) → is_numbered n new.state.live ≡ true → (is_numbered n old.state.live ≡ true) × (is_in n (row_numbers ids) ≡ false)
  pub pending : new.pending ≡ old.pending ++ line_text (Del ids)

pub forgot : (ids : List RowNo) (old new : Derived) → CanForget ids old → Takes (Del ids) old new → Forgot ids old new
forgot ids old new can taken =
    let l = leaves ids old.state.live can.distinct can.live in
    let made : ◌≡◌ {A = Result State Refusal} (Ok (record old.state { live = l.left })) (Ok new.state) = sym (ap (λ (r : Result (List NumberedRow) Refusal). and_then r (λ left. Ok (record old.state { live = left }))) l.is) ∙ taken.step.leads in
    let state : new.state ≡ record old.state { live = l.left } = cc in
    record {
      lists = ap (λ (d : Derived). d.lists) taken.is;
      claim = ap (λ (d : Derived). d.claim) taken.is;
      held = ap (λ (d : Derived). d.held) taken.is;
      least = ap (λ (s : State). s.least) state;
      next = ap (λ (s : State). s.next) state;
      others = λ n i. ap (λ (s : State). row_of n s.live) state ∙ l.others n i;
      only = λ n i. l.only n (ap (λ (s : State). is_numbered n s.live) (sym state) ∙ i);
      pending = ap (λ (d : Derived). d.pending) taken.is;
    }

pub some_there : (n m : ℕ) → n ≡ m → (n == 0) ≡ false → 0 < m
some_there zero m e f = absurd (true≢false f)
some_there (suc n) m e f = omega arith

pub in_none : (n : ℕ) (ids : List RowNo) → length ids ≡ 0 → is_in n (row_numbers ids) ≡ false
in_none n [] e = refl
in_none n (x ∷ ids) e = absurd (omega arith)

pub forgets_none : (ids : List RowNo) (old new : Derived) → length ids ≡ 0 → new ≡ old → Forgets ids old new
forgets_none ids old new none same = subst (Forgets ids old) (sym same) (record {
  goes_on = goes_nowhere old;
  held = refl;
  next = refl;
  notes = λ deletions. adds_nothing deletions old;
  others = λ n i. refl;
  only = λ n i. (i, in_none n ids none);
})

pub forgets_all : (ids : List RowNo) (old new : Derived) → IsReady old → CanForget ids old → IsWritable (Del ids) → Takes (Del ids) old new → StaysValid old new → Forgets ids old new
forgets_all ids old new ready can writable taken valid =
    let f = forgot ids old new can taken in
    record {
      goes_on = record { more = (line_text (Del ids), f.pending); later = omega (arith, f.next); lists = f.lists; claim = f.claim; least = f.least; valid = valid };
      held = f.held;
      next = f.next;
      notes = λ deletions. adds_del deletions ids old new ready (record { writable = writable; unconcluded = ready.unconcluded; takes = taken });
      others = f.others;
      only = f.only;
    }
