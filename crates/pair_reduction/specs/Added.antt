-- What a part of a derivation added to the text and to the live rows.
use Rattle.std.specs.Prelude.{◌≡◌, ℕ, true, false, List, [], ◌∷◌, map, None}
use Rattle.pb_rows.specs.Formula.{is_numbered}
use Rattle.rank_tables.specs.Numbers.{is_in}
use Rattle.proof_lines.specs.declared.note.Note.{Note}
use Rattle.proof_lines.specs.declared.note.Note.TheVariants.{Unit as UnitRow}
use Rattle.proof_lines.specs.Spelling.{row_no}
use Rattle.derivation.specs.Deletions.{Deletions, is_deleted}
use Rattle.derivation.specs.Derived.{Derived}
use Rattle.derivation.specs.Pieces.{ALine, ANote, AddsLawfully, Piece}
use Rattle.derivation.specs.Traces.{Trace}

-- each live row was live before or has one of these numbers
abbrev pub LeavesOnly : List ℕ → Derived → Derived → Type 0
LeavesOnly ids old new = (n : ℕ) → is_numbered n new.state.live ≡ true → is_in n ids ≡ false → is_numbered n old.state.live ≡ true

-- the notes of some lines and notes, in their order
abbrev pub notes_among : List Piece → List Note
notes_among [] = []
notes_among (ALine line ∷ pieces) = notes_among pieces
notes_among (ANote note ∷ pieces) = note ∷ notes_among pieces

-- no bound note is told of, and unit notes of exactly the pairs that are deleted
pub record TellsUnits (deletions : Deletions) (t : Trace) : Type 0 where
  pub since : t.since ≡ None
  pub units : (p : ℕ) → is_in p t.units ≡ is_deleted deletions p

-- Lines were added and, among them, exactly these notes. They keep the law of a written proof wherever unit notes of exactly the
-- pairs that were deleted before are told of, and then those of the pairs that are deleted now are.
pub record AddsNotes (before after : Deletions) (notes : List Note) (old new : Derived) : Type 0 where
  pub pieces : List Piece
  pub lawful : (t : Trace) → TellsUnits before t → (u : Trace) × AddsLawfully pieces old t new u × TellsUnits after u
  pub are : notes_among pieces ≡ notes

-- a unit note for each of these numbers
abbrev pub unit_notes : List ℕ → List Note
unit_notes ids = map (λ n. UnitRow (row_no n)) ids
