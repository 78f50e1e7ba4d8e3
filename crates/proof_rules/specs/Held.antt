-- The rows that a proof's notes hold, beside those that are held from the start.
use Rattle.std.specs.Prelude.{◌≡◌, ℕ, ◌+◌, ◌-◌, ◌≤◌, Bool, not, ◌==◌, IsTrue, List, [], ◌∷◌, ◌++◌, length, map, filter, slice_get, Option, Some, None}
use Rattle.hrt_base.specs.declared.numbered.RowNo.{RowNo}
use Rattle.pb_rows.specs.Terms.{PlainRow}
use Rattle.pb_rows.specs.Formula.{NumberedRow, is_numbered, row_of, rows_of}
use Rattle.rank_tables.specs.Numbers.{is_in, numbers_to}
use Rattle.rank_tables.specs.Instance.{Lists}
use Rattle.stability_model.specs.Model.{pair_row_no, rows}
use Rattle.proof_lines.specs.declared.line.Line.{Line}
use Rattle.proof_lines.specs.declared.line.Line.TheVariants.{Soli}
use Rattle.proof_lines.specs.declared.note.Note.{Note}
use Rattle.proof_lines.specs.declared.note.Note.TheVariants.{Unit as UnitRow, Bound as BoundRow, Load, Learn, Drop}
use Rattle.proof_rules.specs.Valid.{Place, Proving}

-- The numbers of the rows that stay held, of the learned rows that aren't dropped, and how many rows were learned.
pub record Held : Type 0 where
  pub kept : List ℕ
  pub learned : List ℕ
  pub learn_notes : ℕ

-- the numbers of all held rows: of those that stay held, then of the learned ones
abbrev pub held_numbers : Held → List ℕ
held_numbers held = held.kept ++ held.learned

-- whether the row with the number is held
abbrev pub is_held : Held → ℕ → Bool
is_held held n = is_in n (held_numbers held)

-- the live rows that are held
abbrev pub held_rows : List NumberedRow → Held → List PlainRow
held_rows live held = rows_of (filter (λ entry. is_held held entry.number) live)

-- each held number is that of a live row
abbrev pub HeldAreLive : List NumberedRow → Held → Type 0
HeldAreLive live held = (n : ℕ) → IsTrue (is_held held n) → IsTrue (is_numbered n live)

-- each row of the model is live, under its number
abbrev pub ModelIsLive : Lists → List NumberedRow → Type 0
ModelIsLive lists live = (k : ℕ) → 1 ≤ k → k ≤ length (rows lists) → row_of k live ≡ slice_get (rows lists) (k - 1)

-- No held row and no row of the model was deleted, so what a note says of the held rows that are live it says of all of them.
pub record NoneIsDeleted (lists : Lists) (live : List NumberedRow) (held : Held) : Type 0 where
  pub model_live : ModelIsLive lists live
  pub held_live : HeldAreLive live held

-- what is held before any line: the rows of residents and of hospitals, which stand before those of pairs
abbrev pub first_held : Lists → Held
first_held lists = record { kept = numbers_to (pair_row_no lists 0); learned = []; learn_notes = 0 }

-- ---- what notes and lines change

-- what is held once the rows with these numbers stay held too
abbrev pub keeping : List ℕ → Held → Held
keeping numbers held = record held { kept = held.kept ++ numbers }

-- row numbers as plain numbers
abbrev pub row_numbers : List RowNo → List ℕ
row_numbers ids = map (λ id. id.0) ids

-- what is held after a note: rows that it names stay held, or a row is learned, or a learned row is dropped
abbrev pub after_note : Note → Held → Held
after_note (UnitRow id) held = keeping (id.0 ∷ []) held
after_note (BoundRow id) held = keeping (id.0 ∷ []) held
after_note (Load trues ids) held = keeping (row_numbers ids) held
after_note (Learn id decisions asserts) held = record held { learned = held.learned ++ id.0 ∷ []; learn_notes = held.learn_notes + 1 }
after_note (Drop id) held = record held { learned = filter (λ n. not (n == id.0)) held.learned }

-- what is held after a note, if there is one
abbrev pub after_any_note : Option Note → Held → Held
after_any_note None held = held
after_any_note (Some note) held = after_note note held

-- what is held after a line: among the steps a `soli` line's row stays held too, and no other line changes it
abbrev pub after_line : Place → Option Line → Held → Held
after_line (Proving s) (Some (Soli ls)) held = keeping (s.next ∷ []) held
after_line place line held = held
