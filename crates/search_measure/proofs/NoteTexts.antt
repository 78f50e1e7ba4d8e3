-- A written note is one line, which says that note.
use Rattle.std.proofs.Common.{◌≡◌, ℕ, ◌≤◌, ◌==◌, true, not, List, [], ◌∷◌, ◌++◌, length, refl, sym, ap, ◌∙◌}
use Rattle.std.specs.Prelude.{IsTrue, Some}
use Rattle.std.specs.List.{list_all}
use Rattle.std.proofs.lemmas.Bool.{and_from, and_parts}
use Rattle.row_text.proofs.Words.{is_plain, words_text_plain}
use Rattle.proof_lines.specs.declared.note.Note.{Note}
use Rattle.proof_lines.specs.Spelling.{most_bytes}
use Rattle.proof_lines.specs.Notes.{note_in, without_feed}
use Rattle.proof_lines.specs.Texts.{is_spellable_note, note_spelling, note_text, note_words}
use Rattle.proof_lines.proofs.NotesBack.{note_back, note_words_are}
use Rattle.proof_rules.proofs.Told.{is_one_line}

plain_one : (text : List ℕ) → list_all is_plain text ≡ true → is_one_line text ≡ true
plain_one [] h = refl
plain_one (b ∷ text) h =
    let parts = and_parts (is_plain b) (list_all is_plain text) h in
    and_from (not (b == 10)) (is_one_line text) (and_parts (not (b == 10)) (not (b == 13)) parts.0).0 (plain_one text parts.1)

without_last : (text : List ℕ) → without_feed (text ++ 10 ∷ []) ≡ text
without_last [] = refl
without_last (b ∷ []) = refl
without_last (b ∷ c ∷ text) = ap (λ (l : List ℕ). b ∷ l) (without_last (c ∷ text))

pub note_says : (note : Note) → IsTrue (is_spellable_note note) → length (note_text note) ≤ most_bytes → note_in (note_spelling note) ≡ Some note
note_says note m s = ap note_in (sym (without_last (note_spelling note))) ∙ note_back note m s

pub note_line : (note : Note) → IsTrue (is_spellable_note note) → is_one_line (note_spelling note) ≡ true
note_line note m = plain_one (note_spelling note) (words_text_plain (note_words note) (note_words_are note m))
