-- Notes are read back from their words and from their text.
use Rattle.std.proofs.Common.{◌≡◌, ℕ, ◌+◌, ◌≤◌, Bool, true, false, ◌&&◌, List, [], ◌∷◌, ◌++◌, length, map, Some, refl, ap, ap₂, ◌∙◌, arith}
use Rattle.std.specs.Prelude.{bytes_eq, codes, option_and_then, option_map}
use Rattle.std.specs.List.{list_all}
use Rattle.std.proofs.lemmas.Bool.{and_from, and_parts, le-leb}
use Rattle.std.proofs.lemmas.List.{length-append}
use Rattle.hrt_base.specs.declared.literal.Lit.{Lit}
use Rattle.hrt_text.specs.Text.{without_return}
use Rattle.hrt_text.proofs.PlainLines.{without_return-plain}
use Rattle.row_text.specs.Numbers.{both, read_literal, read_variable}
use Rattle.row_text.specs.Rows.{literal_text}
use Rattle.row_text.specs.Tokens.{tokens}
use Rattle.row_text.proofs.Words.{all_words, is_word, tokens-words_text, words_text_plain}
use Rattle.proof_lines.specs.declared.note.Note.{Note}
use Rattle.proof_lines.specs.declared.note.Note.TheVariants.{Unit as unit_note, Bound as bound_note, Load as load_note, Learn as learn_note, Drop as drop_note}
use Rattle.proof_lines.specs.Spelling.{most_bytes}
use Rattle.proof_lines.specs.Notes.{learn_behind, learn_from, load_behind, note_in, note_of, read_front, read_note_tokens, with_item, without_feed}
use Rattle.proof_lines.specs.Texts.{id_text, is_spellable_id, is_spellable_literal, is_spellable_note, is_spellable_variable, is_nonempty_and_all, note_spelling, note_text, note_words, variable_text}
use Rattle.proof_lines.proofs.LinesBack.{literals_words, row_no_back, some_ids_back, some_ids_words}
use Rattle.proof_lines.proofs.StepsBack.{made_id_word, made_literal_read, made_literal_word, made_variable_read, made_variable_word}

variables_front : (vs : List ℕ) (rest : List (List ℕ)) → list_all is_spellable_variable vs ≡ true → read_front read_variable (map variable_text vs ++ codes ":" ∷ rest) ≡ Some (record { items = vs; behind = rest })
variables_front [] rest made = refl
variables_front (v ∷ vs) rest made =
    let m = and_parts (is_spellable_variable v) (list_all is_spellable_variable vs) made in
    ap₂ (both with_item) (made_variable_read v m.0) (variables_front vs rest m.1)

not_colon : (v : ℕ) (neg : Bool) → bytes_eq (literal_text (record { var = v; neg = neg })) (codes ":") ≡ false
not_colon v true = refl
not_colon v false = refl

literals_front : (lits : List Lit) (rest : List (List ℕ)) → list_all is_spellable_literal lits ≡ true → read_front read_literal (map literal_text lits ++ codes ":" ∷ rest) ≡ Some (record { items = lits; behind = rest })
literals_front [] rest made = refl
literals_front (l ∷ lits) rest made =
    let m = and_parts (is_spellable_literal l) (list_all is_spellable_literal lits) made in
    rw (not_colon l.var l.neg) (ap₂ (both with_item) (made_literal_read l m.0) (literals_front lits rest m.1))

variables_words : (vs : List ℕ) → list_all is_spellable_variable vs ≡ true → list_all is_word (map variable_text vs) ≡ true
variables_words [] made = refl
variables_words (v ∷ vs) made =
    let m = and_parts (is_spellable_variable v) (list_all is_spellable_variable vs) made in
    and_from (is_word (variable_text v)) (list_all is_word (map variable_text vs)) (made_variable_word v m.0) (variables_words vs m.1)

pub note_words_back : (note : Note) → is_spellable_note note ≡ true → read_note_tokens (note_words note) ≡ Some note
note_words_back (unit_note r) made = ap (option_map unit_note) (row_no_back r made)
note_words_back (bound_note r) made = ap (option_map bound_note) (row_no_back r made)
note_words_back (load_note trues rows) made =
    let m = and_parts (list_all is_spellable_variable trues) (is_nonempty_and_all is_spellable_id rows) made in
    ap (option_and_then load_behind) (variables_front trues (map id_text rows) m.0) ∙ ap (option_map (load_note trues)) (some_ids_back rows m.1)
note_words_back (learn_note r decisions asserts) made =
    let m = and_parts (is_spellable_id r && list_all is_spellable_literal decisions) (is_spellable_literal asserts) made in
    let k = and_parts (is_spellable_id r) (list_all is_spellable_literal decisions) m.0 in
    ap₂ learn_from (row_no_back r k.0) refl
    ∙ ap (option_and_then (learn_behind r)) (literals_front decisions (literal_text asserts ∷ []) k.1)
    ∙ ap (option_map (learn_note r decisions)) (made_literal_read asserts m.1)
note_words_back (drop_note r) made = ap (option_map drop_note) (row_no_back r made)

pub note_words_are : (note : Note) → is_spellable_note note ≡ true → list_all is_word (note_words note) ≡ true
note_words_are (unit_note r) made = and_from (is_word (id_text r)) true (made_id_word r made) refl
note_words_are (bound_note r) made = and_from (is_word (id_text r)) true (made_id_word r made) refl
note_words_are (load_note trues rows) made =
    let m = and_parts (list_all is_spellable_variable trues) (is_nonempty_and_all is_spellable_id rows) made in
    all_words (map variable_text trues) (codes ":" ∷ map id_text rows) (variables_words trues m.0) (some_ids_words rows m.1)
note_words_are (learn_note r decisions asserts) made =
    let m = and_parts (is_spellable_id r && list_all is_spellable_literal decisions) (is_spellable_literal asserts) made in
    let k = and_parts (is_spellable_id r) (list_all is_spellable_literal decisions) m.0 in
    let end : list_all is_word (codes ":" ∷ literal_text asserts ∷ []) ≡ true = and_from (is_word (literal_text asserts)) true (made_literal_word asserts m.1) refl in
    and_from (is_word (id_text r)) _ (made_id_word r k.0) (all_words (map literal_text decisions) (codes ":" ∷ literal_text asserts ∷ []) (literals_words decisions k.1) end)
note_words_are (drop_note r) made = and_from (is_word (id_text r)) true (made_id_word r made) refl

without_feed_last : (text : List ℕ) → without_feed (text ++ 10 ∷ []) ≡ text
without_feed_last [] = refl
without_feed_last (b ∷ []) = refl
without_feed_last (b ∷ c ∷ text) = ap (λ (l : List ℕ). b ∷ l) (without_feed_last (c ∷ text))

note_in_by : (text : List ℕ) (ws : List (List ℕ)) → length text + 1 ≤ most_bytes → without_return text ≡ text → tokens text ≡ ws → note_in text ≡ read_note_tokens ws
note_in_by text ws few same is = rw (le-leb (length text + 1) most_bytes few, same, is) refl

from_text : (note : Note) (text : List ℕ) → is_spellable_note note ≡ true → length (note_text note) ≤ most_bytes → without_feed text ≡ note_spelling note → note_of text ≡ Some note
from_text note text made short is =
    let words = note_words_are note made in
    let few : length (note_spelling note) + 1 ≤ most_bytes = omega (arith, length-append (note_spelling note) (10 ∷ [])) in
    let same : without_return (note_spelling note) ≡ note_spelling note = without_return-plain (note_spelling note) (words_text_plain (note_words note) words) in
    ap note_in is ∙ note_in_by (note_spelling note) (note_words note) few same (tokens-words_text (note_words note) words) ∙ note_words_back note made

-- What is written for a note reads as the note, with its line feed and without.
pub note_back : (note : Note) → is_spellable_note note ≡ true → length (note_text note) ≤ most_bytes → note_of (note_text note) ≡ Some note
note_back note made short = from_text note (note_text note) made short (without_feed_last (note_spelling note))
