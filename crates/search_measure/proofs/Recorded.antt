-- What lines and notes add to the rows that a proof learns.
use Rattle.std.proofs.Common.{◌≡◌, ℕ, List, [], ◌∷◌, ◌++◌, length, append-nil, append_assoc, length-append, refl, sym, ap, ◌∙◌, subst, arith}
use Rattle.std.specs.Prelude.{Option, Some}
use Rattle.rank_tables.specs.Instance.{Lists}
use Rattle.stability_model.specs.Model.{formula}
use Rattle.proof_lines.specs.declared.line.Claim.{Claim}
use Rattle.proof_lines.specs.declared.note.Note.{Note}
use Rattle.proof_lines.specs.Notes.{note_in}
use Rattle.proof_lines.specs.Texts.{line_text, note_spelling, note_text}
use Rattle.proof_rules.specs.Texts.{Cut, cut}
use Rattle.proof_rules.specs.Held.{Held}
use Rattle.proof_rules.specs.Notes.{LearnedRow}
use Rattle.proof_rules.specs.Valid.{Place}
use Rattle.proof_rules.specs.Told.{learned_in, learned_rows, noted, notes_by, notes_of}
use Rattle.proof_rules.proofs.Told.{cut-line, notes-append}
use Rattle.derivation.specs.Derived.{Derived, StandsFor, place_of}
use Rattle.derivation.specs.Pieces.{ALine, ANote, Adds, Piece, TakesPiece}
use Rattle.conflict_bound.proofs.Counted.{learned_rows-append, notes_counted}
use Rattle.search_measure.specs.Recorded.{NotesLearn, PiecesGoOn, UncountedLearnNothing}
use Rattle.search_measure.proofs.NoteTexts.{note_line, note_says}

-- ---- more bytes

-- more bytes learn what their own notes do
learned-more : (d : Derived) (text more : List ℕ) → StandsFor text d →
    learned_rows (notes_of d.lists ((text ++ d.pending) ++ more)) ≡ learned_rows (notes_of d.lists (text ++ d.pending)) ++ learned_rows (notes_by (formula d.lists) (record { place = place_of d.claim d.state; held = d.held }) (cut more).whole)
learned-more d text more s =
    ap learned_rows (notes-append d.lists (text ++ d.pending) more (place_of d.claim d.state) d.held s.tells)
    ∙ learned_rows-append (notes_of d.lists (text ++ d.pending)) (notes_by (formula d.lists) (record { place = place_of d.claim d.state; held = d.held }) (cut more).whole)

-- as many rows were learned as a derivation counts
pub counted : (d : Derived) (text : List ℕ) → StandsFor text d → length (learned_rows (notes_of d.lists (text ++ d.pending))) ≡ d.held.learn_notes
counted d text s = notes_counted d.lists (text ++ d.pending) s.notes_true ∙ ap (λ (h : Held). h.learn_notes) s.tells.held_is

none-left : (xs : List LearnedRow) → length xs ≡ 0 → xs ≡ []
none-left [] h = refl
none-left (x ∷ xs) h = absurd (omega arith)

pub learn_nothing : UncountedLearnNothing
learn_nothing old new on same text s = whole ∙ ap (λ (rows : List LearnedRow). learned_rows (notes_of old.lists (text ++ old.pending)) ++ rows) (none-left beyond none)
  where
    beyond : List LearnedRow
    beyond = learned_rows (notes_by (formula old.lists) (record { place = place_of old.claim old.state; held = old.held }) (cut on.more).whole)

    whole : learned_rows (notes_of old.lists (text ++ new.pending)) ≡ learned_rows (notes_of old.lists (text ++ old.pending)) ++ beyond
    whole = ap (λ (bytes : List ℕ). learned_rows (notes_of old.lists bytes)) (ap (λ (p : List ℕ). text ++ p) on.pending ∙ sym (append_assoc text old.pending on.more)) ∙ learned-more old text on.more s

    now : length (learned_rows (notes_of old.lists (text ++ new.pending))) ≡ new.held.learn_notes
    now = subst (λ (lists : Lists). length (learned_rows (notes_of lists (text ++ new.pending))) ≡ new.held.learn_notes) on.lists (counted new text (on.valid text s))

    none : length beyond ≡ 0
    none = omega (arith, ap length whole, length-append (learned_rows (notes_of old.lists (text ++ old.pending))) beyond, now, counted old text s, same)

-- ---- a note

said : (d : Derived) (place : Place) (o : Option Note) (note : Note) → o ≡ Some note → learned_rows (noted (record { place = place; held = d.held }) o ++ []) ≡ learned_in place d.held note
said d place o note e = ap (λ (n : Option Note). learned_rows (noted (record { place = place; held = d.held }) n ++ [])) e ∙ append-nil (learned_in place d.held note)

pub notes_learn : NotesLearn
notes_learn note old new t text s =
    ap (λ (bytes : List ℕ). learned_rows (notes_of old.lists bytes)) (ap (λ (d : Derived). text ++ d.pending) t.is ∙ sym (append_assoc text old.pending (note_text note)))
    ∙ learned-more old text (note_text note) s
    ∙ ap (λ (rows : List LearnedRow). learned_rows (notes_of old.lists (text ++ old.pending)) ++ rows)
    (ap (λ (texts : List (List ℕ)). learned_rows (notes_by (formula old.lists) (record { place = place_of old.claim old.state; held = old.held }) texts)) (ap (λ (c : Cut). c.whole) (cut-line (note_spelling note) (note_line note t.made)))
    ∙ said old (place_of old.claim old.state) (note_in (note_spelling note)) note (note_says note t.made t.short)
    ∙ ap (λ (c : Option Claim). learned_in (place_of c old.state) old.held note) t.unconcluded)

-- ---- pieces

record Grows (old new : Derived) : Type 0 where
  pub lists : new.lists ≡ old.lists
  pub more : List ℕ
  pub pending : new.pending ≡ old.pending ++ more

piece-grows : (piece : Piece) (old new : Derived) → TakesPiece piece old new → Grows old new
piece-grows (ALine line) old new t = record { lists = ap (λ (d : Derived). d.lists) t.takes.is; more = line_text line; pending = ap (λ (d : Derived). d.pending) t.takes.is }
piece-grows (ANote note) old new t = record { lists = ap (λ (d : Derived). d.lists) t.is; more = note_text note; pending = ap (λ (d : Derived). d.pending) t.is }

pieces-grow : (pieces : List Piece) (old new : Derived) → Adds pieces old new → Grows old new
pieces-grow [] old new a = record { lists = ap (λ (d : Derived). d.lists) a; more = []; pending = ap (λ (d : Derived). d.pending) a ∙ sym (append-nil old.pending) }
pieces-grow (piece ∷ pieces) old new a =
    let one = piece-grows piece old a.0 a.1 in
    let rest = pieces-grow pieces a.0 new a.2 in
    record {
      lists = rest.lists ∙ one.lists;
      more = one.more ++ rest.more;
      pending = rest.pending ∙ ap (λ (p : List ℕ). p ++ rest.more) one.pending ∙ append_assoc old.pending one.more rest.more;
    }

pub pieces_go_on : PiecesGoOn
pieces_go_on pieces old new a valid = let g = pieces-grow pieces old new a in record { lists = g.lists; more = g.more; pending = g.pending; valid = valid }
