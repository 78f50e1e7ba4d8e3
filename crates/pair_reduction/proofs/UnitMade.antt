-- What the line and the note of a deleted pair ask for, and what they do.
use Rattle.std.proofs.Common.{◌≡◌, ℕ, ◌-◌, ◌*◌, ◌<◌, ◌≤◌, ◌^◌, true, ◌&&◌, List, [], ◌∷◌, ◌++◌, nat_le, if◌then◌else◌, length, pos, refl, sym, ap, ap₂, ◌∙◌, subst, inr, zero-le, arith}
use Rattle.std.specs.Prelude.{None, Result, Ok, Err, IfOk, codes, decimal, OnErr}
use Rattle.std.specs.Fmt.{digits, signed_decimal}
use Rattle.std.specs.List.{list_all}
use Rattle.std.proofs.lemmas.Bool.{and_from, and_parts, le-leb, leb-true}
use Rattle.std.proofs.lemmas.Fmt.{length-decimal-le}
use Rattle.std.proofs.lemmas.List.{length-append}
use Rattle.hrt_base.specs.declared.numbered.RowNo.{RowNo}
use Rattle.pb_rows.specs.Terms.{PlainRow, weighing}
use Rattle.pb_rows.specs.Normal.{all_sizes, normal_form}
use Rattle.pb_rows.specs.Rows.{IsWellFormedRow, in_normal_form}
use Rattle.pb_rows.specs.Closure.{Implies}
use Rattle.pb_rows.specs.Formula.{is_numbered}
use Rattle.row_text.specs.Rows.{is_small_row, literal_text, signed_text}
use Rattle.row_text.specs.Tokens.{spaced}
use Rattle.rank_tables.specs.Instance.{pair_count}
use Rattle.proof_lines.specs.declared.line.Line.TheVariants.{Rup}
use Rattle.proof_lines.specs.declared.note.Note.TheVariants.{Unit as UnitRow}
use Rattle.proof_lines.specs.Spelling.{most_bytes, row_no}
use Rattle.proof_lines.specs.Texts.{is_spellable_id, line_text, note_text}
use Rattle.proof_rules.specs.Refusals.{TooBig}
use Rattle.proof_rules.specs.States.{IsInOrder, State, if_known, literals_in, live_rows, rup_row, with_row}
use Rattle.proof_rules.proofs.Canonical.{normal_form-normal}
use Rattle.proof_rules.proofs.Made.{made_if, made_known, made_then}
use Rattle.derivation.specs.Deletions.{unit_row}
use Rattle.derivation.specs.Derived.{Derived}
use Rattle.derivation.specs.Pieces.{TakesLine, TakesNote}
use Rattle.derivation.specs.Steps.{IsWritable, Takes, with_note, written_of}
use Rattle.derivation.proofs.ShortRows.{unit_formed}
use Rattle.derivation.proofs.Readiness.{row_last, row_numbered}
use Rattle.pair_reduction.specs.Reduced.{AddsUnit, StopsAtUnit, with_unit, with_unit_row}

pub unit_form : (p : ℕ) → normal_form (weighing 1 (record { var = p; neg = true }) ∷ []) (pos 1) ≡ unit_row p
unit_form p = normal_form-normal (unit_row p) (unit_formed p)

pub row_is : {E : Type 0} (p : ℕ) (result : Result PlainRow E) → IfOk result (λ row. row ≡ normal_form (weighing 1 (record { var = p; neg = true }) ∷ []) (pos 1)) → IfOk result (λ row. row ≡ unit_row p)
row_is p (Ok row) h = h ∙ unit_form p
row_is p (Err e) h = tt

spaced_most : (ws : List (List ℕ)) → list_all (λ w. nat_le (length w) 20) ws ≡ true → length (spaced ws) ≤ 21 * length ws
spaced_most [] h = omega arith
spaced_most (w ∷ ws) h =
    let parts = and_parts (nat_le (length w) 20) (list_all (λ w. nat_le (length w) 20) ws) h in
    omega (arith, leb-true (length w) 20 parts.0, spaced_most ws parts.1, length-append w (spaced ws))

literal_short : (p : ℕ) → p ≤ 100000 → nat_le (length (literal_text (record { var = p; neg = true }))) 20 ≡ true
literal_short p h = le-leb (length (literal_text (record { var = p; neg = true }))) 20 (omega (arith, length-append (codes "~" ++ codes "x") (decimal p), length-decimal-le 6 p (omega arith) (omega arith) (omega arith)))

one_signed : nat_le (length (signed_text (pos 1))) 20 ≡ true
unfolding digits
one_signed = refl

one_plain : nat_le (length (signed_decimal (pos 1))) 20 ≡ true
unfolding digits
one_plain = refl

unit_short : (p : ℕ) → p ≤ 100000 → length (line_text (Rup (written_of (unit_row p)))) ≤ most_bytes
unit_short p h =
    let ws : List (List ℕ) = signed_text (pos 1) ∷ literal_text (record { var = p; neg = true }) ∷ codes ">=" ∷ signed_decimal (pos 1) ∷ codes ";" ∷ [] in
    let short : length (spaced ws) ≤ 21 * 5 = spaced_most ws
    (and_from (nat_le (length (signed_text (pos 1))) 20) _ one_signed (and_from (nat_le (length (literal_text (record { var = p; neg = true }))) 20) _ (literal_short p h) (and_from true _ refl (and_from (nat_le (length (signed_decimal (pos 1))) 20) _ one_plain refl)))) in
    omega (arith, short, length-append (codes "rup" ++ spaced ws) (10 ∷ []), length-append (codes "rup") (spaced ws))

pub unit_writable : (row : PlainRow) (p : ℕ) → row ≡ unit_row p → 1 ≤ p → p ≤ 100000 → IsWritable (Rup (written_of row))
unit_writable row p e first last = subst (λ (r : PlainRow). IsWritable (Rup (written_of r))) (sym e) (record {
  made = and_from (nat_le 1 p && nat_le p 4294967295) true (and_from (nat_le 1 p) (nat_le p 4294967295) (le-leb 1 p first) (le-leb p 4294967295 (omega arith))) refl;
  small = refl;
  short = unit_short p last;
})

taken_row : (p : ℕ) (old new : Derived) → Takes (Rup (written_of (unit_row p))) old new → new ≡ with_unit_row p old
taken_row p old new taken =
    let made = made_then (rup_row (pair_count old.lists) (written_of (unit_row p))) (λ row. Ok (with_row old.state row)) new.state taken.step.leads in
    let known = made_if (is_small_row (written_of (unit_row p)))
    (if_known (pair_count old.lists) (literals_in (unit_row p).terms) (if nat_le (all_sizes (unit_row p).terms (pos 1)) (2 ^ 120) then Ok (in_normal_form (written_of (unit_row p))) else Err TooBig)) TooBig made.0 made.1 in
    let within = made_known (pair_count old.lists) (literals_in (unit_row p).terms) (if nat_le (all_sizes (unit_row p).terms (pos 1)) (2 ^ 120) then Ok (in_normal_form (written_of (unit_row p))) else Err TooBig) made.0 known.1 in
    let fits = made_if (nat_le (all_sizes (unit_row p).terms (pos 1)) (2 ^ 120)) (Ok (in_normal_form (written_of (unit_row p)))) TooBig made.0 within in
    let row : in_normal_form (written_of (unit_row p)) ≡ made.0 = cc (fits.1) in
    let state : with_row old.state made.0 ≡ new.state = cc (made.2) in
    taken.is ∙ ap (λ (s : State). record old { state = s; pending = old.pending ++ line_text (Rup (written_of (unit_row p))) }) (sym state ∙ ap (with_row old.state) (sym row ∙ unit_form p))

pub taken_unit : (row : PlainRow) (p : ℕ) (old new : Derived) → row ≡ unit_row p → Takes (Rup (written_of row)) old new → new ≡ with_unit_row p old
taken_unit row p old new e taken = taken_row p old new (subst (λ (r : PlainRow). Takes (Rup (written_of r)) old new) e taken)

pub note_made : (n next : ℕ) → n ≡ next → 1 ≤ next → next < 10 ^ 18 → is_spellable_id (row_no n) ≡ true
note_made n next e first last = and_from (nat_le 1 n) (nat_le n (10 ^ 18 - 1)) (le-leb 1 n (omega arith)) (le-leb n (10 ^ 18 - 1) (omega arith))

pub note_short : (n : ℕ) → n < 10 ^ 18 → length (note_text (UnitRow (row_no n))) ≤ most_bytes
note_short n h = omega (arith, length-append (decimal n ++ []) (10 ∷ []), length-append (decimal n) [], length-decimal-le 18 n (omega arith) h (omega arith))

pub noted_unit : (p : ℕ) (old mid new : Derived) (id : RowNo) → mid ≡ with_unit_row p old → id.0 ≡ old.state.next → new ≡ with_note (UnitRow id) mid → new ≡ with_unit p old
noted_unit p old mid new id made number noted = noted ∙ ap₂ (λ (r : RowNo) (d : Derived). with_note (UnitRow r) d) (ap row_no number) made

pub adds_unit :
    (row : PlainRow) (p : ℕ) (old mid new : Derived) (id : RowNo) → row ≡ unit_row p → mid ≡ with_unit_row p old → IsWritable (Rup (written_of row)) → old.claim ≡ None → IsInOrder old.state → Takes (Rup (written_of row)) old mid → id.0 ≡ old.state.next →
    is_spellable_id id ≡ true → length (note_text (UnitRow id)) ≤ most_bytes → new ≡ with_note (UnitRow id) mid → AddsUnit p old new
adds_unit row p old mid new id is made writable unconcluded order taken number spelled short noted =
    let line : TakesLine (Rup (written_of row)) old mid = record { writable = writable; unconcluded = unconcluded; takes = taken } in
    let there : is_numbered old.state.next (with_unit_row p old).state.live ≡ true =
    row_numbered old.state.next (unit_row p) (with_unit_row p old).state.live (row_last old.state.next (unit_row p) old.state.live order) in
    let note : TakesNote (UnitRow (row_no old.state.next)) (with_unit_row p old) new = record {
      made = ap (λ (n : ℕ). is_spellable_id (row_no n)) (sym number) ∙ spelled;
      short = subst (λ (n : ℕ). length (note_text (UnitRow (row_no n))) ≤ most_bytes) number short;
      unconcluded = unconcluded;
      so = there;
      is = noted_unit p old mid new id made number noted;
    } in
    record { line = subst (λ (r : PlainRow). TakesLine (Rup (written_of r)) old (with_unit_row p old)) is (subst (TakesLine (Rup (written_of row)) old) made line); note = note }

pub stopped : {T E : Type 0} (result : Result T E) (p : ℕ) (old mid new : Derived) → mid ≡ with_unit_row p old → new ≡ mid → OnErr result (StopsAtUnit p old new)
stopped (Ok x) p old mid new made same = tt
stopped (Err x) p old mid new made same = inr (same ∙ made)

pub implied_as : (row : PlainRow) (p : ℕ) (s : State) → row ≡ unit_row p → Implies (live_rows s) (unit_row p) → Implies (live_rows s) row
implied_as row p s e h = subst (Implies (live_rows s)) (sym e) h
