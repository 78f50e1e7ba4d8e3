-- One pair is deleted.
use Rattle.std.proofs.Common.{◌≡◌, ℕ, ◌+◌, ◌-◌, ◌≤◌, Bool, true, false, ◌||◌, ◌==◌, List, [], ◌∷◌, ◌++◌, append_assoc, length, get_or, refl, sym, ap, ◌∙◌, subst, inl, inr, arith}
use Rattle.std.specs.Prelude.{Option, None, Some, is_some, slice_get, slice_set}
use Rattle.std.proofs.lemmas.Bool.{cases_eq, eq-eqb, eqb-true, false_from_ne_true, or_cases, or_left, or_right}
use Rattle.std.proofs.lemmas.Option.{slice_get-get_or}
use Rattle.hrt_base.specs.declared.numbered.RowNo.{RowNo}
use Rattle.pb_rows.specs.Terms.{PlainRow}
use Rattle.pb_rows.specs.Formula.{is_numbered, row_of}
use Rattle.rank_tables.specs.Numbers.{is_in}
use Rattle.rank_tables.specs.Instance.{Lists}
use Rattle.rank_tables.specs.Tables.{IsPairNo}
use Rattle.stability_model.specs.Gone.{Gone}
use Rattle.stability_model.specs.Model.{rows}
use Rattle.stability_model.proofs.GoneSteps.{gone_step}
use Rattle.proof_lines.specs.declared.line.Line.TheVariants.{Rup}
use Rattle.proof_lines.specs.declared.note.Note.TheVariants.{Unit as UnitRow}
use Rattle.proof_lines.specs.Spelling.{row_no}
use Rattle.proof_lines.specs.Texts.{line_text, note_text}
use Rattle.proof_rules.specs.Held.{Held, is_held, keeping}
use Rattle.proof_rules.specs.States.{IsInOrder}
use Rattle.proof_rules.proofs.Held.{is_held-keeping, is_in-append}
use Rattle.derivation.specs.Deletions.{Deletions, is_deleted, unit_row, unit_row_no}
use Rattle.derivation.specs.Derived.{Derived, StaysValid}
use Rattle.derivation.specs.Pieces.{ALine, ANote, Piece, traced}
use Rattle.derivation.specs.Ready.{IsReady}
use Rattle.derivation.specs.Steps.{written_of}
use Rattle.derivation.specs.Traces.{Trace, variables_of}
use Rattle.derivation.proofs.NoneDeleted.{model_below, none_deleted}
use Rattle.derivation.proofs.Readiness.{ready_row, row_last, row_numbered}
use Rattle.pair_reduction.specs.Reduced.{AddsUnit, CanReduce, Deletes, GoesOn, KeepsLive, with_unit, with_unit_row}
use Rattle.pair_reduction.specs.Added.{AddsNotes, LeavesOnly, TellsUnits, unit_notes}
use Rattle.pair_reduction.specs.declared.sides.Side.{Side}
use Rattle.pair_reduction.specs.Sides.{is_free, is_passed, other}
use Rattle.pair_reduction.proofs.Added.{only_row}
use Rattle.pair_reduction.proofs.GoingOn.{kept_numbered, kept_row}
use Rattle.pair_reduction.proofs.Reducing.{absent_from, marked_here, marked_other}
use Rattle.pair_reduction.proofs.TwoSides.{rule_shown}

-- ---- ready again

one_in : (n k : ℕ) → is_in n (k ∷ []) ≡ true → n ≡ k
one_in n k e = elim (or_cases (k == n) false e) [
  | inl f ↦ sym (eqb-true k n f)
  | inr f ↦ absurd (cc)
]

pub model_lives : (old new : Derived) → GoesOn old new → KeepsLive old new → IsReady old → (k : ℕ) → 1 ≤ k → k ≤ length (rows new.lists) → row_of k new.state.live ≡ slice_get (rows new.lists) (k - 1)
model_lives old new goes kept ready k first last =
    let none : PlainRow = record { terms = []; degree = 0 } in
    let here : k ≤ length (rows old.lists) = subst (λ (l : Lists). k ≤ length (rows l)) goes.lists last in
    let at : slice_get (rows old.lists) (k - 1) ≡ Some (get_or (rows old.lists) (k - 1) none) = slice_get-get_or (rows old.lists) (k - 1) none (omega arith) in
    kept k (get_or (rows old.lists) (k - 1) none) (ready.model_live k first here ∙ at) ∙ sym at ∙ ap (λ (l : Lists). slice_get (rows l) (k - 1)) (sym goes.lists)

pub ready_again : (old new : Derived) (id : ℕ) (row : PlainRow) → IsReady old → GoesOn old new → KeepsLive old new → new.held ≡ keeping (id ∷ []) old.held → row_of id new.state.live ≡ Some row → IsReady new
ready_again old new id row ready goes kept held found = record {
  unconcluded = goes.claim ∙ ready.unconcluded;
  model_live = model_lives old new goes kept ready;
  held_live = λ n h.
      elim (or_cases (is_held old.held n) (is_in n (id ∷ [])) (sym (is_held-keeping old.held (id ∷ []) n) ∙ ap (λ (x : Held). is_held x n) (sym held) ∙ h)) [
        | inl e ↦ kept_numbered old new kept n (ready.held_live n e)
        | inr e ↦ row_numbered n row new.state.live (ap (λ (k : ℕ). row_of k new.state.live) (one_in n id e) ∙ found)
      ];
}

-- ---- the line and the note

unit_text : (p : ℕ) (old new : Derived) → new ≡ with_unit p old → (text : List ℕ) × (new.pending ≡ old.pending ++ text)
unit_text p old new e = (line_text (Rup (written_of (unit_row p))) ++ note_text (UnitRow (row_no old.state.next)), ap (λ (d : Derived). d.pending) e ∙ append_assoc old.pending (line_text (Rup (written_of (unit_row p)))) (note_text (UnitRow (row_no old.state.next))))

unit_goes : (p : ℕ) (old new : Derived) → new ≡ with_unit p old → StaysValid old new → GoesOn old new
unit_goes p old new e valid =
    let next : new.state.next ≡ old.state.next + 1 = ap (λ (d : Derived). d.state.next) e in
    record { more = unit_text p old new e; later = omega arith; lists = ap (λ (d : Derived). d.lists) e; claim = ap (λ (d : Derived). d.claim) e; least = ap (λ (d : Derived). d.state.least) e; valid = valid }

unit_kept : (p : ℕ) (old new : Derived) → new ≡ with_unit p old → KeepsLive old new
unit_kept p old new e n row found = ap (λ (d : Derived). row_of n d.state.live) e ∙ kept_row (unit_row p) (line_text (Rup (written_of (unit_row p)))) old (with_unit_row p old) refl n row found

unit_there : (p : ℕ) (old new : Derived) → new ≡ with_unit p old → IsInOrder old.state → row_of old.state.next new.state.live ≡ Some (unit_row p)
unit_there p old new e order = ap (λ (d : Derived). row_of old.state.next d.state.live) e ∙ row_last old.state.next (unit_row p) old.state.live order

unit_only : (p : ℕ) (old new : Derived) → new ≡ with_unit p old → LeavesOnly (old.state.next ∷ []) old new
unit_only p old new e n live out = only_row (unit_row p) (line_text (Rup (written_of (unit_row p)))) old.state.next old (with_unit_row p old) refl refl n (ap (λ (d : Derived). is_numbered n d.state.live) (sym e) ∙ live) out

-- ---- the law

or_rest : (b c : Bool) → c ≡ false → (b || c) ≡ b
or_rest true c e = refl
or_rest false c e = e

-- the pair is told of too
unit_told :
    (p : ℕ) (old : Derived) (before after : Deletions) (t : Trace) → IsInOrder old.state → 1 ≤ p → p ≤ length before → after ≡ slice_set before (p - 1) (Some (row_no old.state.next)) → TellsUnits before t →
    (q : ℕ) → is_in q (t.units ++ variables_of (row_of old.state.next (with_unit_row p old).state.live)) ≡ is_deleted after q
unit_told p old before after t order first last marked tells q =
    let id : RowNo = row_no old.state.next in
    let now : (is_deleted before q || is_in q (p ∷ [])) ≡ is_deleted after q = elim (cases_eq q p) [
      | inl e ↦
          let here : is_deleted after q ≡ true = ap (λ (m : Deletions). is_deleted m q) marked ∙ ap (is_deleted (slice_set before (p - 1) (Some id))) e ∙ ap is_some (marked_here before p id first last) in
          or_right (is_deleted before q) (is_in q (p ∷ [])) (or_left (p == q) false (eq-eqb p q (sym e))) ∙ sym here
      | inr other ↦
          let there : is_deleted after q ≡ is_deleted before q = ap (λ (m : Deletions). is_deleted m q) marked ∙ ap is_some (marked_other before p id first last q other) in
          or_rest (is_deleted before q) (is_in q (p ∷ [])) (false_from_ne_true (is_in q (p ∷ [])) (λ h. other (one_in q p h))) ∙ sym there
    ] in
    ap (λ (o : Option PlainRow). is_in q (t.units ++ variables_of o)) (row_last old.state.next (unit_row p) old.state.live order)
    ∙ is_in-append q t.units (p ∷ []) ∙ ap (λ (b : Bool). b || is_in q (p ∷ [])) (tells.units q) ∙ now

-- both keep the law, where the pair is gone and wasn't deleted before
unit_adds : (p : ℕ) (old new : Derived) (before after : Deletions) → IsReady old → IsInOrder old.state → Gone old.lists p → 1 ≤ p → p ≤ length before → unit_row_no before p ≡ None → after ≡ slice_set before (p - 1) (Some (row_no old.state.next)) → AddsUnit p old new →
    AddsNotes before after (unit_notes (old.state.next ∷ [])) old new
unit_adds p old new before after ready order gone first last absent marked adds = record {
  pieces = ALine (Rup (written_of (unit_row p))) ∷ ANote (UnitRow (row_no old.state.next)) ∷ [];
  lawful = λ t tells.
      let mid : Derived = with_unit_row p old in
      let ready_mid : IsReady mid = ready_row (unit_row p) (line_text (Rup (written_of (unit_row p)))) old ready in
      let line : Piece = ALine (Rup (written_of (unit_row p))) in
      let note : Piece = ANote (UnitRow (row_no old.state.next)) in
      let fresh : is_in p t.units ≡ false = tells.units p ∙ ap is_some absent in (
        traced note mid new (traced line old mid t),
        (
          mid,
          adds.line,
          (none_deleted old ready, tells.since),
          (new, adds.note, (none_deleted mid ready_mid, (model_below old ready order, record { pair = p; gone = gone; new = fresh; row = row_last old.state.next (unit_row p) old.state.live order })), (refl, refl)),
        ),
        record { since = tells.since; units = unit_told p old before after t order first last marked tells },
      );
  are = refl;
}

-- a pair by its line and its note alone
pub deletes_unit : (p : ℕ) (old new : Derived) (before after : Deletions) → IsReady old → IsInOrder old.state → Gone old.lists p → 1 ≤ p → p ≤ length before → unit_row_no before p ≡ None → AddsUnit p old new → new ≡ with_unit p old → StaysValid old new →
    after ≡ slice_set before (p - 1) (Some (row_no old.state.next)) → Deletes old new before after p
deletes_unit p old new before after ready order gone first last absent adds e valid marked =
    let goes = unit_goes p old new e valid in
    let kept = unit_kept p old new e in
    let held : new.held ≡ keeping (old.state.next ∷ []) old.held = ap (λ (d : Derived). d.held) e in
    let row = unit_there p old new e order in
    let next : new.state.next ≡ old.state.next + 1 = ap (λ (d : Derived). d.state.next) e in
    record { id = old.state.next; later = (omega arith, omega arith); goes_on = goes; kept = kept; ready = ready_again old new old.state.next (unit_row p) ready goes kept held row; held = held; notes = unit_adds p old new before after ready order gone first last absent marked adds; only = unit_only p old new e; marked = marked; row = row }

-- a pair that the rule of a side shows
pub deletes_by_rule :
    (side : Side) (lists : Lists) (old new : Derived) (before after : Deletions) (p : ℕ) → CanReduce lists old before → IsPairNo lists p → is_deleted before p ≡ false → is_passed side lists (is_free (other side) lists (is_deleted before)) p ≡ true → IsInOrder old.state →
    AddsUnit p old new → new ≡ with_unit p old → StaysValid old new → after ≡ slice_set before (p - 1) (Some (row_no old.state.next)) → Deletes old new before after p
deletes_by_rule side lists old new before after p can p_is absent rule order adds e valid marked =
    let gone : Gone lists p = gone_step lists (is_deleted before) p (λ k h. can.gone k h) p_is (rule_shown side lists (is_deleted before) p rule) in
    deletes_unit p old new before after can.ready order (subst (λ (l : Lists). Gone l p) can.same gone) p_is.0 (omega (arith, can.pairs, p_is.1)) (absent_from (unit_row_no before p) absent) adds e valid marked
