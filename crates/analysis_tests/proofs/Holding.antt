-- Rows that an engine and a derivation hold besides.
use Rattle.std.proofs.Common.{◌≡◌, ◌≤◌, ◌+◌, ◌-◌, ◌^◌, ◌==◌, ◌||◌, ℕ, true, false, nat_le, List, [], ◌∷◌, ◌++◌, length, get_or, refl, sym, ap, ◌∙◌, subst, inl, inr, arith}
use Rattle.std.specs.Prelude.{Some, decimal, slice_get}
use Rattle.std.proofs.lemmas.Bool.{and_from, and_parts, false_from_ne_true, le-leb, leb-true, or_cases, eqb-true}
use Rattle.std.proofs.lemmas.Fmt.{length-decimal-le}
use Rattle.std.proofs.lemmas.List.{length-append}
use Rattle.std.proofs.lemmas.List.Elements.{All-cons, All-nil}
use Rattle.std.proofs.lemmas.Option.{slice_get-get_or}
use Rattle.hrt_base.specs.declared.numbered.RowNo.{RowNo}
use Rattle.pb_rows.specs.Terms.{PlainRow}
use Rattle.pb_rows.specs.Rows.{IsWellFormedRow}
use Rattle.pb_rows.specs.Formula.{NumberedRow, row_of}
use Rattle.rank_tables.specs.Instance.{Lists}
use Rattle.rank_tables.specs.Numbers.{is_in, numbers_to}
use Rattle.rank_tables.proofs.Numbers.{is_in-numbers_to}
use Rattle.stability_model.specs.Model.{AreShortRows, IsShortRow, pair_row_no, rows}
use Rattle.proof_lines.specs.declared.note.Note.TheVariants.{Unit as UnitRow}
use Rattle.proof_lines.specs.Spelling.{most_bytes}
use Rattle.proof_lines.specs.Texts.{is_spellable_note, note_text}
use Rattle.proof_rules.specs.Held.{ModelIsLive, is_held}
use Rattle.proof_rules.specs.States.{AreNumbered}
use Rattle.proof_rules.proofs.Held.{is_in-append}
use Rattle.proof_rules.proofs.Numbers.{live_within}
use Rattle.derivation.specs.Derived.{Derived}
use Rattle.derivation.specs.Ready.{IsReady}
use Rattle.derivation.specs.Steps.{first_derived, with_note}
use Rattle.row_arena.specs.Held.{Held}
use Rattle.pb_propagate.specs.Engines.{EngineState}
use Rattle.agreement.specs.Agreement.{Agree, IsLiveIn}
use Rattle.agreement.specs.Kept.{HoldsBesides}
use Rattle.agreement.proofs.Growing.{grown}
use Rattle.agreement.proofs.Lines.{notes_hold}
use Rattle.analysis_tests.specs.Systems.{IsBelow, IsSystem}

-- one more row, at some place
pub agree_more : (e f : EngineState) (old new : Derived) (place n : ℕ) (row : PlainRow) → Agree e old → HoldsBesides (n ∷ []) old new → is_held old.held n ≡ false → row_of n new.state.live ≡ Some row → IsWellFormedRow row →
    f.vars ≡ e.vars → f.held ≡ e.held ++ record { place = place; row = row; tag = n } ∷ [] → Agree f new
agree_more e f old new place n row agree besides free live formed vars held =
    let added : Held = record { place = place; row = row; tag = n } in
    grown e f old new (added ∷ []) (n ∷ []) agree besides
    (record {
      tags_are = refl;
      distinct = refl;
      not_held = All-cons (λ (k : ℕ). is_held old.held k ≡ false) n [] free (All-nil (λ (k : ℕ). is_held old.held k ≡ false));
      live = All-cons (IsLiveIn new) added [] (record { live = live; formed = formed }) (All-nil (IsLiveIn new));
    })
    (record { vars = vars; held = held })

-- ---- a unit note

pub note_made : (id : RowNo) (next : ℕ) (row : PlainRow) (live : List NumberedRow) → AreNumbered 1 next live → next ≤ 1000000 → row_of id.0 live ≡ Some row → is_spellable_note (UnitRow id) ≡ true
note_made id next row live order few e = let w = live_within id.0 next row live order e in and_from (nat_le 1 id.0) (nat_le id.0 (10 ^ 18 - 1)) (le-leb 1 id.0 w.0) (le-leb id.0 (10 ^ 18 - 1) (omega (arith, w.1, few)))

pub note_short : (id : RowNo) (next : ℕ) (row : PlainRow) (live : List NumberedRow) → AreNumbered 1 next live → next ≤ 1000000 → row_of id.0 live ≡ Some row → length (note_text (UnitRow id)) ≤ most_bytes
note_short id next row live order few e =
    let w = live_within id.0 next row live order e in
    omega (arith, length-append (decimal id.0 ++ []) (10 ∷ []), length-append (decimal id.0) [], length-decimal-le 18 id.0 (omega arith) (omega (arith, w.1, few)) (omega arith))

pub held_system : (lists : Lists) (e f : EngineState) (old new : Derived) (place : ℕ) (id : RowNo) (row : PlainRow) → IsSystem lists e old → new ≡ with_note (UnitRow id) old → IsReady new → is_held old.held id.0 ≡ false → row_of id.0 old.state.live ≡ Some row → IsWellFormedRow row →
    f.vars ≡ e.vars → f.held ≡ e.held ++ record { place = place; row = row; tag = id.0 } ∷ [] → IsSystem lists f new
held_system lists e f old new place id row system is ready free live formed vars held = record {
  agree = agree_more e f old new place id.0 row system.agree (subst (HoldsBesides (id.0 ∷ []) old) (sym is) (notes_hold old (UnitRow id) tt)) free (ap (λ (d : Derived). row_of id.0 d.state.live) is ∙ live) formed vars held;
  ready = ready;
  same = system.same ∙ sym (ap (λ (d : Derived). d.lists) is);
}

-- ---- rows of the model

-- the row of a number
pub short_row : (vars k : ℕ) (rs : List PlainRow) (row : PlainRow) → AreShortRows vars rs → 1 ≤ k → k ≤ length rs → slice_get rs (k - 1) ≡ Some row → IsShortRow vars row
short_row vars k rs row short first last e =
    let none : PlainRow = record { terms = []; degree = 0 } in
    let at : slice_get rs (k - 1) ≡ Some (get_or rs (k - 1) none) = slice_get-get_or rs (k - 1) none (omega arith) in
    let same : get_or rs (k - 1) none ≡ row = cc in
    subst (IsShortRow vars) same (short.each (k - 1) none (omega arith))

pub model_live : (lists : Lists) (d : Derived) (k : ℕ) (row : PlainRow) → IsReady d → lists ≡ d.lists → 1 ≤ k → k ≤ length (rows lists) → slice_get (rows lists) (k - 1) ≡ Some row → row_of k d.state.live ≡ Some row
model_live lists d k row ready same first last e = subst (λ (l : Lists). ModelIsLive l d.state.live) (sym same) ready.model_live k first last ∙ e

-- ---- what is held first

pub first_below : (lists : Lists) → IsBelow (pair_row_no lists 1) (first_derived lists)
first_below lists n h = elim (or_cases (is_in n (numbers_to (pair_row_no lists 0))) false (sym (is_in-append n (numbers_to (pair_row_no lists 0)) []) ∙ h)) [
  | inl s ↦ let parts = and_parts (nat_le 1 n) (nat_le n (pair_row_no lists 0)) (sym (is_in-numbers_to (pair_row_no lists 0) n) ∙ s) in omega (arith, leb-true n (pair_row_no lists 0) parts.1)
  | inr s ↦ absurd (cc)
]

-- a number that isn't below isn't held
pub not_below : (k n : ℕ) (d : Derived) → IsBelow k d → k ≤ n → is_held d.held n ≡ false
not_below k n d below l = false_from_ne_true (is_held d.held n) (λ h. let under = below n h in omega (arith, under, l))

pub below_more : (k : ℕ) (old new : Derived) → IsBelow k old → ((n : ℕ) → is_held new.held n ≡ (is_held old.held n || (k == n))) → IsBelow (k + 1) new
below_more k old new below one n h = elim (or_cases (is_held old.held n) (k == n) (sym (one n) ∙ h)) [
  | inl s ↦ let under = below n s in omega (arith, under)
  | inr s ↦ let same : k ≡ n = eqb-true k n s in omega (arith, same)
]
