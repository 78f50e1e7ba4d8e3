-- What the lines of a proof tell: where they lead, which rows are held on the way, and the notes between them.
use Rattle.std.specs.Prelude.{◌≡◌, ℕ, List, [], ◌∷◌, ◌++◌, Option, Some, None, Result, Ok, Err, All}
use Rattle.pb_rows.specs.Formula.{Formula}
use Rattle.rank_tables.specs.Instance.{Lists}
use Rattle.stability_model.specs.Model.{formula}
use Rattle.proof_lines.specs.declared.line.Line.{Line}
use Rattle.proof_lines.specs.declared.note.Note.{Note}
use Rattle.proof_lines.specs.declared.note.Note.TheVariants.{Learn}
use Rattle.proof_lines.specs.Spelling.{read_line}
use Rattle.proof_lines.specs.Notes.{note_in}
use Rattle.proof_rules.specs.Refusals.{Refusal}
use Rattle.proof_rules.specs.Valid.{Place, Start, Proving, next_place}
use Rattle.proof_rules.specs.Texts.{Reaches, cut, whole_lines}
use Rattle.proof_rules.specs.Held.{Held, after_any_note, after_line, first_held, held_rows}
use Rattle.proof_rules.specs.Notes.{IsTrueNote, LearnedRow}

-- where lines lead, and which rows are held there
pub record Told : Type 0 where
  pub place : Place
  pub held : Held

-- what is told before any line: the proof is at its start, and the first rows are held
abbrev pub first_told : Lists → Told
first_told lists = record { place = Start; held = first_held lists }

-- ---- one line

-- a line that leads nowhere leaves the place
abbrev pub or_here : Place → Result Place Refusal → Place
or_here here (Ok there) = there
or_here here (Err why) = here

-- where a line leads, whatever it owes; one without a spelling leaves the place
abbrev pub place_after : Formula → Place → Option Line → Place
place_after f here None = here
place_after f here (Some line) = or_here here (next_place f here line)

-- the rows that are held after a line, which can be a solution, a note or neither
abbrev pub held_after : Place → List ℕ → Held → Held
held_after here text held = after_any_note (note_in text) (after_line here (read_line text) held)

-- where a line leads, and which rows are held after it
abbrev pub told_after : Formula → Told → List ℕ → Told
told_after f told text = record { place = place_after f told.place (read_line text); held = held_after told.place text told.held }

-- ---- lines

-- where lines lead one after another, and which rows are held after the last
abbrev pub told_by : Formula → Told → List (List ℕ) → Told
told_by f told [] = told
told_by f told (text ∷ texts) = told_by f (told_after f told text) texts

-- a note, and where the proof was just before it
pub record NoteAt : Type 0 where
  pub place : Place
  pub held : Held
  pub note : Note

-- the note of a line, if it has one, with what was told before the line
abbrev pub noted : Told → Option Note → List NoteAt
noted told None = []
noted told (Some note) = record { place = told.place; held = told.held; note = note } ∷ []

-- the notes of the lines, in their order
abbrev pub notes_by : Formula → Told → List (List ℕ) → List NoteAt
notes_by f told [] = []
notes_by f told (text ∷ texts) = noted told (note_in text) ++ notes_by f (told_after f told text) texts

-- ---- proofs of a model

-- it stands among the steps, and what it says is so
abbrev pub IsTrueIn : Lists → Place → Held → Note → Type 0
IsTrueIn lists (Proving s) held note = IsTrueNote lists s.live held note
IsTrueIn lists place held note = ⊥

-- the note is true where it stands
abbrev pub IsTrueAt : Lists → NoteAt → Type 0
IsTrueAt lists at = IsTrueIn lists at.place at.held at.note

-- the notes of the whole lines of a text
abbrev pub notes_of : Lists → List ℕ → List NoteAt
notes_of lists bytes = notes_by (formula lists) (first_told lists) (cut bytes).whole

-- the rows that are held after the whole lines of a text
abbrev pub held_by : Lists → List ℕ → Held
held_by lists bytes = (told_by (formula lists) (first_told lists) (cut bytes).whole).held

-- The bytes are whole lines, and as far as they go a valid proof of the model. They lead to the place, with these rows held.
pub record Tells (lists : Lists) (bytes : List ℕ) (place : Place) (held : Held) : Type 0 where
  pub whole : (cut bytes).rest ≡ []
  pub reaches : Reaches (formula lists) Start (whole_lines bytes) place
  pub held_is : held_by lists bytes ≡ held

-- what each note of the bytes says is so
abbrev pub AreTrueNotes : Lists → List ℕ → Type 0
AreTrueNotes lists bytes = All (IsTrueAt lists) (notes_of lists bytes)

-- ---- learned rows

-- the learned row of a note that learns one among the steps, or none
abbrev pub learned_in : Place → Held → Note → List LearnedRow
learned_in (Proving s) held (Learn id decisions l) = record { held = held_rows s.live held; decisions = decisions; asserts = l } ∷ []
learned_in place held note = []

-- the learned rows of the notes, in their order
abbrev pub learned_rows : List NoteAt → List LearnedRow
learned_rows [] = []
learned_rows (at ∷ notes) = learned_in at.place at.held at.note ++ learned_rows notes
