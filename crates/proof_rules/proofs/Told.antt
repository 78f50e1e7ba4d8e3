-- What a proof tells, line by line and piece by piece.
use Rattle.std.proofs.Common.{◌≡◌, ℕ, ◌==◌, Bool, true, false, not, List, [], ◌∷◌, ◌++◌, map, All, refl, sym, ap, ap₂, ◌∙◌, subst}
use Rattle.std.specs.Prelude.{Option, Some, None}
use Rattle.std.specs.List.{list_all}
use Rattle.std.proofs.lemmas.Bool.{and_parts}
use Rattle.std.proofs.lemmas.List.{append_assoc}
use Rattle.std.proofs.lemmas.List.Elements.{All-append, All-nil}
use Rattle.pb_rows.specs.Formula.{Formula}
use Rattle.rank_tables.specs.Instance.{Lists}
use Rattle.stability_model.specs.Model.{formula}
use Rattle.proof_lines.specs.declared.line.Line.{Line}
use Rattle.proof_lines.specs.Spelling.{read_line}
use Rattle.proof_lines.specs.Notes.{note_in}
use Rattle.proof_rules.specs.Valid.{Place, Start, Moves}
use Rattle.proof_rules.specs.Texts.{Cut, Reading, Reaches, cut, whole_lines, with_byte}
use Rattle.proof_rules.specs.Held.{Held, first_held}
use Rattle.proof_rules.specs.Told.{AreTrueNotes, IsTrueAt, NoteAt, Tells, Told, first_told, held_after, noted, notes_by, notes_of, or_here, place_after, told_after, told_by}
use Rattle.proof_rules.proofs.Pieces.{cut-whole, reaches-append, whole-append}

-- ---- lists of lines

pub told_by-append : (f : Formula) (told : Told) (xs ys : List (List ℕ)) → told_by f told (xs ++ ys) ≡ told_by f (told_by f told xs) ys
told_by-append f told [] ys = refl
told_by-append f told (x ∷ xs) ys = told_by-append f (told_after f told x) xs ys

pub notes_by-append : (f : Formula) (told : Told) (xs ys : List (List ℕ)) → notes_by f told (xs ++ ys) ≡ notes_by f told xs ++ notes_by f (told_by f told xs) ys
notes_by-append f told [] ys = refl
notes_by-append f told (x ∷ xs) ys =
    ap (λ (notes : List NoteAt). noted told (note_in x) ++ notes) (notes_by-append f (told_after f told x) xs ys)
    ∙ sym (append_assoc (noted told (note_in x)) (notes_by f (told_after f told x) xs) (notes_by f (told_by f (told_after f told x) xs) ys))

-- ---- places

first_step : (f : Formula) (here : Place) (o : Option Line) (lines : Reading) (there : Place) → Reaches f here (o ∷ lines) there → (next : Place) × (place_after f here o ≡ next) × Reaches f next lines there
first_step f here None lines there r = absurd r
first_step f here (Some line) lines there r = (r.0, ap (or_here here) r.1.leads, r.2)

-- lines that lead somewhere tell that place
pub told-reaches : (f : Formula) (told : Told) (texts : List (List ℕ)) (there : Place) → Reaches f told.place (map read_line texts) there → (told_by f told texts).place ≡ there
told-reaches f told [] there r = r
told-reaches f told (text ∷ texts) there r =
    let step = first_step f told.place (read_line text) (map read_line texts) there r in
    told-reaches f (told_after f told text) texts there (subst (λ (p : Place). Reaches f p (map read_line texts) there) (sym step.1) step.2)

-- ---- texts

tells_told : (lists : Lists) (bytes : List ℕ) (here : Place) (held : Held) → Tells lists bytes here held → told_by (formula lists) (first_told lists) (cut bytes).whole ≡ record { place = here; held = held }
tells_told lists bytes here held t =
    ap₂ (λ (p : Place) (h : Held). record { place = p; held = h }) (told-reaches (formula lists) (first_told lists) (cut bytes).whole here t.reaches) t.held_is

pub tells-start : (lists : Lists) → Tells lists [] Start (first_held lists)
tells-start lists = record { whole = refl; reaches = refl; held_is = refl }

-- more lines that lead on
pub tells-append : (lists : Lists) (bytes more : List ℕ) (here there : Place) (held : Held) → Tells lists bytes here held → (cut more).rest ≡ [] → Reaches (formula lists) here (whole_lines more) there →
    Tells lists (bytes ++ more) there (told_by (formula lists) (record { place = here; held = held }) (cut more).whole).held
tells-append lists bytes more here there held t w r = record {
  whole = ap (λ (c : Cut). c.rest) (cut-whole bytes more t.whole) ∙ w;
  reaches = subst (λ (lines : Reading). Reaches (formula lists) Start lines there) (sym (whole-append bytes more t.whole))
      (reaches-append (formula lists) Start (whole_lines bytes) (whole_lines more) here there t.reaches r);
  held_is = ap (λ (texts : List (List ℕ)). (told_by (formula lists) (first_told lists) texts).held) (ap (λ (c : Cut). c.whole) (cut-whole bytes more t.whole))
      ∙ ap (λ (told : Told). told.held) (told_by-append (formula lists) (first_told lists) (cut bytes).whole (cut more).whole)
      ∙ ap (λ (told : Told). (told_by (formula lists) told (cut more).whole).held) (tells_told lists bytes here held t);
}

pub notes-append : (lists : Lists) (bytes more : List ℕ) (here : Place) (held : Held) → Tells lists bytes here held →
    notes_of lists (bytes ++ more) ≡ notes_of lists bytes ++ notes_by (formula lists) (record { place = here; held = held }) (cut more).whole
notes-append lists bytes more here held t =
    ap (λ (texts : List (List ℕ)). notes_by (formula lists) (first_told lists) texts) (ap (λ (c : Cut). c.whole) (cut-whole bytes more t.whole))
    ∙ notes_by-append (formula lists) (first_told lists) (cut bytes).whole (cut more).whole
    ∙ ap (λ (told : Told). notes_of lists bytes ++ notes_by (formula lists) told (cut more).whole) (tells_told lists bytes here held t)

-- ---- one more line

-- the bytes hold no line feed
abbrev pub is_one_line : List ℕ → Bool
is_one_line text = list_all (λ b. not (b == 10)) text

other_byte : (b : ℕ) (t : Bool) (line : List ℕ) → (b == 10) ≡ t → not t ≡ true → with_byte b (record { whole = line ∷ []; rest = [] }) ≡ record { whole = (b ∷ line) ∷ []; rest = [] }
other_byte b true line e h = absurd (cc)
other_byte b false line e h = rw e refl

pub cut-line : (text : List ℕ) → is_one_line text ≡ true → cut (text ++ 10 ∷ []) ≡ record { whole = text ∷ []; rest = [] }
cut-line [] h = refl
cut-line (b ∷ text) h =
    let parts = and_parts (not (b == 10)) (is_one_line text) h in
    ap (with_byte b) (cut-line text parts.1) ∙ other_byte b (b == 10) text refl parts.0

one_step : (f : Formula) (here : Place) (o : Option Line) (line : Line) (there : Place) → o ≡ Some line → Moves f here line there → Reaches f here (o ∷ []) there
one_step f here o line there e m = subst (λ (p : Option Line). Reaches f here (p ∷ []) there) (sym e) (there, m, refl)

pub tells-line : (lists : Lists) (bytes text : List ℕ) (line : Line) (here there : Place) (held : Held) → Tells lists bytes here held → is_one_line text ≡ true → read_line text ≡ Some line → Moves (formula lists) here line there →
    Tells lists (bytes ++ (text ++ 10 ∷ [])) there (held_after here text held)
tells-line lists bytes text line here there held t one e m =
    subst (λ (texts : List (List ℕ)). Tells lists (bytes ++ (text ++ 10 ∷ [])) there (told_by (formula lists) (record { place = here; held = held }) texts).held) whole
    (tells-append lists bytes (text ++ 10 ∷ []) here there held t (ap (λ (c : Cut). c.rest) (cut-line text one))
    (subst (λ (texts : List (List ℕ)). Reaches (formula lists) here (map read_line texts) there) (sym whole) (one_step (formula lists) here (read_line text) line there e m)))
  where
    whole : (cut (text ++ 10 ∷ [])).whole ≡ text ∷ []
    whole = ap (λ (c : Cut). c.whole) (cut-line text one)

pub notes-line : (lists : Lists) (bytes text : List ℕ) (here : Place) (held : Held) → Tells lists bytes here held → is_one_line text ≡ true →
    AreTrueNotes lists bytes → All (IsTrueAt lists) (noted (record { place = here; held = held }) (note_in text)) → AreTrueNotes lists (bytes ++ (text ++ 10 ∷ []))
notes-line lists bytes text here held t one h k =
    subst (All (IsTrueAt lists)) (sym (notes-append lists bytes (text ++ 10 ∷ []) here held t))
    (All-append (IsTrueAt lists) (notes_of lists bytes) (notes_by (formula lists) (record { place = here; held = held }) (cut (text ++ 10 ∷ [])).whole) h
    (subst (λ (texts : List (List ℕ)). All (IsTrueAt lists) (notes_by (formula lists) (record { place = here; held = held }) texts)) (sym (ap (λ (c : Cut). c.whole) (cut-line text one)))
    (All-append (IsTrueAt lists) (noted (record { place = here; held = held }) (note_in text)) [] k (All-nil (IsTrueAt lists)))))
