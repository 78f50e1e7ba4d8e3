-- Each row of a pair that is held was loaded, and a fresh row is open.
use Rattle.std.proofs.Common.{◌≡◌, ℕ, ◌+◌, ◌<◌, ◌≤◌, ◌==◌, nat_le, Bool, true, false, not, ◌||◌, ◌&&◌, List, [], ◌∷◌, ◌++◌, length, filter, refl, sym, ap, ◌∙◌, subst, inl, inr, arith}
use Rattle.std.specs.Prelude.{Option, Some, None}
use Rattle.std.proofs.lemmas.Bool.{and_parts, eqb-true, leb-true, or_cases, true≢false}
use Rattle.std.proofs.lemmas.List.{append-nil, append_assoc}
use Rattle.std.proofs.lemmas.List.Elements.{All-contains}
use Rattle.hrt_base.specs.declared.literal.Term.{Term}
use Rattle.pb_rows.specs.Terms.{opposite_lit}
use Rattle.pb_rows.specs.Closure.{IsSettled}
use Rattle.rank_tables.specs.Instance.{Lists}
use Rattle.rank_tables.specs.Numbers.{is_in, numbers_to}
use Rattle.rank_tables.specs.Tables.{IsPairNo}
use Rattle.rank_tables.proofs.Numbers.{is_in-filter, is_in-numbers_to}
use Rattle.stability_model.specs.Model.{formula, pair_row_no, rows}
use Rattle.proof_lines.specs.declared.line.Line.{Line}
use Rattle.proof_lines.specs.declared.line.Line.TheVariants.{Header, Count, Pol, Rup, Soli, Del, Output, Conclusion, End, Comment, Blank}
use Rattle.proof_lines.specs.declared.note.Note.{Note}
use Rattle.proof_lines.specs.declared.note.Note.TheVariants.{Unit as UnitRow, Bound as BoundRow, Load, Learn, Drop}
use Rattle.proof_lines.specs.Spelling.{read_line}
use Rattle.proof_lines.specs.Notes.{note_in}
use Rattle.proof_rules.specs.Valid.{Place, Start, Headed, Proving, Closing, Claimed, Done}
use Rattle.proof_rules.specs.Texts.{cut}
use Rattle.proof_rules.specs.Held.{Held, after_any_note, after_line, after_note, is_held, keeping, row_numbers}
use Rattle.proof_rules.proofs.Held.{is_held-keeping, is_in-append}
use Rattle.derivation.specs.Traces.{AreLawful, AreLoadedIn, FreshRowsAreOpen, HeldRowsAreLoaded, IsLawfulAt, Trace, first_trace, loaded_after, trace_after, trace_by}
use Rattle.derivation.proofs.NotesOfLines.{note_comment}
use Rattle.derivation.proofs.Readiness.{rows_count}

or_first : (b c : Bool) → b ≡ true → (b || c) ≡ true
or_first true c h = refl
or_first false c h = absurd (cc)

or_second : (b c : Bool) → c ≡ true → (b || c) ≡ true
or_second true c h = refl
or_second false c h = h

-- the one number of a list
only : (n k : ℕ) → is_in n (k ∷ []) ≡ true → k ≡ n
only n k i = elim (or_cases (k == n) false i) [ inl e ↦ eqb-true k n e | inr e ↦ absurd (cc) ]

-- the row of a pair is a row of the model
within_model : (lists : Lists) (p k : ℕ) → IsPairNo lists p → length (rows lists) < k → k ≡ pair_row_no lists p → ⊥
within_model lists p k number new is = omega (arith, number.1, new, is, rows_count lists)

-- ---- what a note changes

keep_new : (lists : Lists) (held : Held) (loaded : List ℕ) (k : ℕ) → length (rows lists) < k → AreLoadedIn lists held loaded → AreLoadedIn lists (keeping (k ∷ []) held) loaded
keep_new lists held loaded k new h p number i =
    elim (or_cases (is_held held (pair_row_no lists p)) (is_in (pair_row_no lists p) (k ∷ [])) (sym (is_held-keeping held (k ∷ []) (pair_row_no lists p)) ∙ i)) [
      | inl e ↦ h p number e
      | inr e ↦ absurd (within_model lists p k number new (only (pair_row_no lists p) k e))
    ]

keep_loaded : (lists : Lists) (held : Held) (loaded numbers : List ℕ) → AreLoadedIn lists held loaded → AreLoadedIn lists (keeping numbers held) (loaded ++ numbers)
keep_loaded lists held loaded numbers h p number i =
    is_in-append (pair_row_no lists p) loaded numbers
    ∙ elim (or_cases (is_held held (pair_row_no lists p)) (is_in (pair_row_no lists p) numbers) (sym (is_held-keeping held numbers (pair_row_no lists p)) ∙ i)) [
      | inl e ↦ or_first (is_in (pair_row_no lists p) loaded) (is_in (pair_row_no lists p) numbers) (h p number e)
      | inr e ↦ or_second (is_in (pair_row_no lists p) loaded) (is_in (pair_row_no lists p) numbers) e
    ]

learn_new : (lists : Lists) (held : Held) (loaded : List ℕ) (k : ℕ) → length (rows lists) < k → AreLoadedIn lists held loaded → AreLoadedIn lists (record held { learned = held.learned ++ k ∷ []; learn_notes = held.learn_notes + 1 }) loaded
learn_new lists held loaded k new h p number i =
    let n : ℕ = pair_row_no lists p in
    let parts : is_in n (held.kept ++ (held.learned ++ k ∷ [])) ≡ (is_in n (held.kept ++ held.learned) || is_in n (k ∷ [])) =
    ap (is_in n) (sym (append_assoc held.kept held.learned (k ∷ []))) ∙ is_in-append n (held.kept ++ held.learned) (k ∷ []) in
    elim (or_cases (is_in n (held.kept ++ held.learned)) (is_in n (k ∷ [])) (sym parts ∙ i)) [
      | inl e ↦ h p number e
      | inr e ↦ absurd (within_model lists p k number new (only n k e))
    ]

fewer : (a b c : Bool) → (a || (b && c)) ≡ true → (a || b) ≡ true
fewer true b c h = refl
fewer false true c h = refl
fewer false false c h = absurd (cc)

drop_some : (lists : Lists) (held : Held) (loaded : List ℕ) (test : ℕ → Bool) → AreLoadedIn lists held loaded → AreLoadedIn lists (record held { learned = filter test held.learned }) loaded
drop_some lists held loaded test h p number i =
    let n : ℕ = pair_row_no lists p in
    let parts : is_in n (held.kept ++ filter test held.learned) ≡ (is_in n held.kept || (is_in n held.learned && test n)) =
    is_in-append n held.kept (filter test held.learned) ∙ ap (λ (b : Bool). is_in n held.kept || b) (is_in-filter test n held.learned) in
    h p number (is_in-append n held.kept held.learned ∙ fewer (is_in n held.kept) (is_in n held.learned) (test n) (sym parts ∙ i))

note_loaded : (lists : Lists) (t : Trace) (place : Place) (note : Note) → IsLawfulAt lists t place (Some Comment) (Some note) → AreLoadedIn lists t.told.held t.loaded → AreLoadedIn lists (after_note note t.told.held) (loaded_after (Some note) t.loaded)
note_loaded lists t (Proving s) (UnitRow id) law h = keep_new lists t.told.held t.loaded id.0 law.1.0 h
note_loaded lists t (Proving s) (BoundRow id) law h = keep_new lists t.told.held t.loaded id.0 law.1.0 h
note_loaded lists t (Proving s) (Load trues ids) law h = keep_loaded lists t.told.held t.loaded (row_numbers ids) h
note_loaded lists t (Proving s) (Learn id decisions l) law h = learn_new lists t.told.held t.loaded id.0 law.1.0 h
note_loaded lists t (Proving s) (Drop id) law h = drop_some lists t.told.held t.loaded (λ n. not (n == id.0)) h
note_loaded lists t Start note law h = absurd law
note_loaded lists t Headed note law h = absurd law
note_loaded lists t (Closing s) note law h = absurd law
note_loaded lists t (Claimed c) note law h = absurd law
note_loaded lists t (Done c) note law h = absurd law

-- ---- what another line changes

line_loaded : (lists : Lists) (t : Trace) (place : Place) (o : Option Line) → IsLawfulAt lists t place o None → AreLoadedIn lists t.told.held t.loaded → AreLoadedIn lists (after_line place o t.told.held) t.loaded
line_loaded lists t (Proving s) (Some (Soli ls)) law h = keep_new lists t.told.held t.loaded s.next law.1 h
line_loaded lists t (Proving s) (Some Header) law h = h
line_loaded lists t (Proving s) (Some (Count n)) law h = h
line_loaded lists t (Proving s) (Some (Pol steps)) law h = h
line_loaded lists t (Proving s) (Some (Rup w)) law h = h
line_loaded lists t (Proving s) (Some (Del ids)) law h = h
line_loaded lists t (Proving s) (Some Output) law h = h
line_loaded lists t (Proving s) (Some (Conclusion c)) law h = h
line_loaded lists t (Proving s) (Some End) law h = h
line_loaded lists t (Proving s) (Some Comment) law h = h
line_loaded lists t (Proving s) (Some Blank) law h = h
line_loaded lists t (Proving s) None law h = h
line_loaded lists t Start o law h = h
line_loaded lists t Headed o law h = h
line_loaded lists t (Closing s) o law h = h
line_loaded lists t (Claimed c) o law h = h
line_loaded lists t (Done c) o law h = h

-- a comment changes nothing by itself
comment_holds : (place : Place) (held : Held) → after_line place (Some Comment) held ≡ held
comment_holds Start held = refl
comment_holds Headed held = refl
comment_holds (Proving s) held = refl
comment_holds (Closing s) held = refl
comment_holds (Claimed c) held = refl
comment_holds (Done c) held = refl

-- ---- lines

one_loaded : (lists : Lists) (t : Trace) (text : List ℕ) → IsLawfulAt lists t t.told.place (read_line text) (note_in text) → AreLoadedIn lists t.told.held t.loaded →
    AreLoadedIn lists (trace_after (formula lists) t text).told.held (trace_after (formula lists) t text).loaded
one_loaded lists t text law h = by (note_in text) refl
  where
    by : (n : Option Note) → note_in text ≡ n → AreLoadedIn lists (trace_after (formula lists) t text).told.held (trace_after (formula lists) t text).loaded
    by None e =
        subst (λ (n : Option Note). AreLoadedIn lists (after_any_note n (after_line t.told.place (read_line text) t.told.held)) (loaded_after n t.loaded)) (sym e)
        (line_loaded lists t t.told.place (read_line text) (subst (IsLawfulAt lists t t.told.place (read_line text)) e law) h)
    by (Some note) e =
        let c : read_line text ≡ Some Comment = note_comment text note e in
        subst (λ (n : Option Note). AreLoadedIn lists (after_any_note n (after_line t.told.place (read_line text) t.told.held)) (loaded_after n t.loaded)) (sym e)
        (subst (λ (held : Held). AreLoadedIn lists (after_note note held) (loaded_after (Some note) t.loaded)) (sym (ap (λ (o : Option Line). after_line t.told.place o t.told.held) c ∙ comment_holds t.told.place t.told.held))
        (note_loaded lists t t.told.place note (subst (λ (o : Option Line). IsLawfulAt lists t t.told.place o (Some note)) c (subst (IsLawfulAt lists t t.told.place (read_line text)) e law)) h))

lines_loaded : (lists : Lists) (t : Trace) (texts : List (List ℕ)) → AreLawful lists t texts → AreLoadedIn lists t.told.held t.loaded →
    AreLoadedIn lists (trace_by (formula lists) t texts).told.held (trace_by (formula lists) t texts).loaded
lines_loaded lists t [] law h = h
lines_loaded lists t (text ∷ texts) law h = lines_loaded lists (trace_after (formula lists) t text) texts law.1 (one_loaded lists t text law.0 h)

-- ---- the start

first_apart : (lists : Lists) → AreLoadedIn lists (first_trace lists).told.held (first_trace lists).loaded
first_apart lists p number i =
    let n : ℕ = pair_row_no lists p in
    let k : ℕ = pair_row_no lists 0 in
    let here : is_in n (numbers_to k) ≡ true = subst (λ (ns : List ℕ). is_in n ns ≡ true) (append-nil (numbers_to k)) i in
    let parts = and_parts (nat_le 1 n) (nat_le n k) (sym (is_in-numbers_to k n) ∙ here) in
    let below : pair_row_no lists p ≤ pair_row_no lists 0 = leb-true n k parts.1 in
    absurd (omega (arith, number.0, below))

pub held_rows_loaded : HeldRowsAreLoaded
held_rows_loaded lists bytes law = lines_loaded lists (first_trace lists) (cut bytes).whole law (first_apart lists)

-- ---- fresh rows

not_true : (b : Bool) → not b ≡ true → b ≡ false
not_true true h = absurd (cc)
not_true false h = refl

pub fresh_open : FreshRowsAreOpen
fresh_open vars held row decisions l fresh keeps =
    let t : Term = fresh.asserts.0 in
    let free = and_parts (not (fresh.set t.lit)) (not (fresh.set (opposite_lit t.lit))) fresh.asserts.3.free in
    let settled : IsSettled fresh.set row t = All-contains (IsSettled fresh.set row) row.terms t keeps.settled fresh.asserts.1 in
    let holds : fresh.set t.lit ≡ true = settled (not_true (fresh.set (opposite_lit t.lit)) free.1) fresh.asserts.3.exceeds in
    true≢false (sym holds ∙ not_true (fresh.set t.lit) free.0)
