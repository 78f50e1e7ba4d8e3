-- What parts of a derivation added, one after another.
use Rattle.std.proofs.Common.{◌≡◌, ℕ, zero, suc, true, false, ◌==◌, List, [], ◌∷◌, ◌++◌, refl, sym, ap, ◌∙◌, subst, inl, inr}
use Rattle.std.specs.Prelude.{Option, None}
use Rattle.std.proofs.lemmas.Bool.{or_cases, or_left, or_parts, or_right, true≢false}
use Rattle.std.proofs.lemmas.List.{map-append}
use Rattle.hrt_base.specs.declared.numbered.RowNo.{RowNo}
use Rattle.pb_rows.specs.Terms.{PlainRow}
use Rattle.pb_rows.specs.Formula.{NumberedRow, is_numbered}
use Rattle.proof_lines.specs.declared.line.Line.{Line}
use Rattle.proof_lines.specs.declared.line.Line.TheVariants.{Pol, Del}
use Rattle.proof_lines.specs.declared.line.PolStep.{PolStep}
use Rattle.proof_lines.specs.declared.note.Note.{Note}
use Rattle.proof_lines.specs.declared.note.Note.TheVariants.{Unit as UnitRow}
use Rattle.proof_lines.specs.Spelling.{row_no}
use Rattle.derivation.specs.Deletions.{Deletions}
use Rattle.derivation.specs.Derived.{Derived}
use Rattle.derivation.specs.Pieces.{ALine, ANote, Piece, TakesLine, traced}
use Rattle.derivation.specs.Ready.{IsReady}
use Rattle.derivation.specs.Steps.{with_new_row}
use Rattle.derivation.specs.Traces.{IsLawfulLine, IsLawfulPol, Trace, since_line}
use Rattle.derivation.proofs.NoneDeleted.{none_deleted}
use Rattle.derivation.proofs.Traced.{adds_lawfully-append}
use Rattle.pair_reduction.specs.Added.{AddsNotes, LeavesOnly, TellsUnits, notes_among, unit_notes}

-- ---- the text

pub adds_nothing : (deletions : Deletions) (d : Derived) → AddsNotes deletions deletions [] d d
adds_nothing deletions d = record { pieces = []; lawful = λ t tells. (t, (refl, refl), tells); are = refl }

-- a line that is no mark
adds_line : (deletions : Deletions) (line : Line) (old new : Derived) → IsReady old → TakesLine line old new → ((t : Trace) → t.since ≡ None → IsLawfulLine old.lists old.state t line) → since_line old.state.next line None ≡ None → AddsNotes deletions deletions [] old new
adds_line deletions line old new ready takes law rests = record {
  pieces = ALine line ∷ [];
  lawful = λ t tells. (
    traced (ALine line) old new t,
    (new, takes, (none_deleted old ready, law t tells.since), (refl, refl)),
    record { since = ap (since_line old.state.next line) tells.since ∙ rests; units = tells.units },
  );
  are = refl;
}

pub adds_pol : (deletions : Deletions) (steps : List PolStep) (old new : Derived) → IsReady old → TakesLine (Pol steps) old new → AddsNotes deletions deletions [] old new
adds_pol deletions steps old new ready takes =
    adds_line deletions (Pol steps) old new ready takes (λ t none. subst (λ (s : Option ℕ). IsLawfulPol old.lists old.state.next t.told.held s steps) (sym none) tt) refl

pub adds_del : (deletions : Deletions) (ids : List RowNo) (old new : Derived) → IsReady old → TakesLine (Del ids) old new → AddsNotes deletions deletions [] old new
adds_del deletions ids old new ready takes = adds_line deletions (Del ids) old new ready takes (λ t none. tt) refl

notes-append : (xs ys : List Piece) → notes_among (xs ++ ys) ≡ notes_among xs ++ notes_among ys
notes-append [] ys = refl
notes-append (ALine line ∷ xs) ys = notes-append xs ys
notes-append (ANote note ∷ xs) ys = ap (λ (ns : List Note). note ∷ ns) (notes-append xs ys)

pub adds_further : (xs ys : List Note) (a b c : Derived) (x y z : Deletions) → AddsNotes x y xs a b → AddsNotes y z ys b c → AddsNotes x z (xs ++ ys) a c
adds_further xs ys a b c x y z g h = record {
  pieces = g.pieces ++ h.pieces;
  lawful = λ t tells.
      let one = g.lawful t tells in
      let two = h.lawful one.0 one.2 in
      (two.0, adds_lawfully-append g.pieces h.pieces a b c t one.0 two.0 one.1 two.1, two.2);
  are = notes-append g.pieces h.pieces ∙ ap (λ (ns : List Note). ns ++ notes_among h.pieces) g.are ∙ ap (λ (ns : List Note). xs ++ ns) h.are;
}

pub units_further : (xs ys : List ℕ) (a b c : Derived) (x y z : Deletions) → AddsNotes x y (unit_notes xs) a b → AddsNotes y z (unit_notes ys) b c → AddsNotes x z (unit_notes (xs ++ ys)) a c
units_further xs ys a b c x y z g h =
    subst (λ (ns : List Note). AddsNotes x z ns a c) (sym (map-append (λ n. UnitRow (row_no n)) xs ys)) (adds_further (unit_notes xs) (unit_notes ys) a b c x y z g h)

-- ---- the live rows

before_last : (n : ℕ) (live : List NumberedRow) (last : NumberedRow) → (last.number == n) ≡ false → is_numbered n (live ++ last ∷ []) ≡ true → is_numbered n live ≡ true
before_last n [] last other h = elim (or_cases (last.number == n) false h) [
  | inl e ↦ absurd (true≢false (sym e ∙ other))
  | inr e ↦ e
]
before_last n (entry ∷ live) last other h = elim (or_cases (entry.number == n) (is_numbered n (live ++ last ∷ [])) h) [
  | inl e ↦ or_left (entry.number == n) (is_numbered n live) e
  | inr e ↦ or_right (entry.number == n) (is_numbered n live) (before_last n live last other e)
]

pub only_row : (row : PlainRow) (text : List ℕ) (k : ℕ) (old new : Derived) → k ≡ old.state.next → new ≡ with_new_row row text old → LeavesOnly (k ∷ []) old new
only_row row text k old new number e n live out =
    let other : (k == n) ≡ false = (or_parts (k == n) false out).0 in
    before_last n old.state.live (record { number = old.state.next; row = row }) (ap (λ (j : ℕ). j == n) (sym number) ∙ other) (ap (λ (d : Derived). is_numbered n d.state.live) (sym e) ∙ live)
