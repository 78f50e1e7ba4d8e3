-- What is written for a line or a note that some text spells reads as it.
use Rattle.std.proofs.Common.{◌≡◌, ℕ, ◌≤◌, true, List, length, Some}
use Rattle.proof_lines.specs.declared.line.Line.{Line}
use Rattle.proof_lines.specs.declared.note.Note.{Note}
use Rattle.proof_lines.specs.Notes.{note_of}
use Rattle.proof_lines.specs.Spelling.{is_small_line, most_bytes, read_line}
use Rattle.proof_lines.specs.Texts.{line_text, note_text, spelling}
use Rattle.proof_lines.proofs.LinesBack.{line_back}
use Rattle.proof_lines.proofs.LinesMade.{line_made}
use Rattle.proof_lines.proofs.NotesBack.{note_back}
use Rattle.proof_lines.proofs.NotesMade.{note_made}

pub spelled_line_back : (line : Line) → (text : List ℕ) × (read_line text ≡ Some line) → is_small_line line ≡ true → length (line_text line) ≤ most_bytes → read_line (spelling line) ≡ Some line
spelled_line_back line spelled small short = line_back line (line_made spelled.0 line spelled.1) small short

pub spelled_note_back : (note : Note) → (text : List ℕ) × (note_of text ≡ Some note) → length (note_text note) ≤ most_bytes → note_of (note_text note) ≡ Some note
spelled_note_back note spelled short = note_back note (note_made spelled.0 note spelled.1) short
