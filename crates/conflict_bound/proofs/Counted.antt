-- The learned rows of a text with true notes: they are fresh, and as many as its learn notes.
use Rattle.std.proofs.Common.{◌≡◌, ℕ, ◌+◌, List, [], ◌∷◌, ◌++◌, length, refl, sym, ap, ◌∙◌, arith}
use Rattle.std.specs.Prelude.{Option, Some, None}
use Rattle.std.specs.List.{All}
use Rattle.std.proofs.lemmas.List.{append_assoc, length-append}
use Rattle.std.proofs.lemmas.List.Elements.{All-append, All-cons, All-head, All-nil, All-tail}
use Rattle.rank_tables.specs.Instance.{Lists, pair_count}
use Rattle.stability_model.specs.Model.{formula}
use Rattle.proof_lines.specs.declared.line.Line.{Line}
use Rattle.proof_lines.specs.declared.line.Line.TheVariants.{Header, Count, Pol, Rup, Soli, Del, Output, Conclusion, End, Comment, Blank}
use Rattle.proof_lines.specs.declared.note.Note.{Note}
use Rattle.proof_lines.specs.declared.note.Note.TheVariants.{Unit as UnitRow, Bound as BoundRow, Load, Learn, Drop}
use Rattle.proof_lines.specs.Spelling.{read_line}
use Rattle.proof_lines.specs.Notes.{note_in}
use Rattle.proof_rules.specs.Texts.{cut}
use Rattle.proof_rules.specs.Valid.{Place, Start, Headed, Proving, Closing, Claimed, Done}
use Rattle.proof_rules.specs.Held.{Held, after_any_note, after_line, after_note}
use Rattle.proof_rules.specs.Notes.{LearnedRow}
use Rattle.proof_rules.specs.Told.{IsTrueAt, IsTrueIn, NoteAt, Told, first_told, learned_in, learned_rows, noted, notes_by, notes_of, told_after, told_by}
use Rattle.conflict_bound.specs.Sizes.{IsLearned}
use Rattle.conflict_bound.specs.Counted.{LearnNotesAreCounted, LearnNotesAreFew, TrueNotesLearnFresh}
use Rattle.conflict_bound.proofs.Parts.{all_behind, all_front}
use Rattle.conflict_bound.proofs.Stretches.{conflicts_few}

pub learned_rows-append : (xs ys : List NoteAt) → learned_rows (xs ++ ys) ≡ learned_rows xs ++ learned_rows ys
learned_rows-append [] ys = refl
learned_rows-append (at ∷ xs) ys =
    ap (λ (rows : List LearnedRow). learned_in at.place at.held at.note ++ rows) (learned_rows-append xs ys)
    ∙ sym (append_assoc (learned_in at.place at.held at.note) (learned_rows xs) (learned_rows ys))

-- ---- fresh ones

in_fresh : (lists : Lists) (here : Place) (held : Held) (note : Note) → IsTrueIn lists here held note → All (IsLearned (pair_count lists)) (learned_in here held note)
in_fresh lists (Proving s) held (UnitRow id) h = All-nil (IsLearned (pair_count lists))
in_fresh lists (Proving s) held (BoundRow id) h = All-nil (IsLearned (pair_count lists))
in_fresh lists (Proving s) held (Load trues ids) h = All-nil (IsLearned (pair_count lists))
in_fresh lists (Proving s) held (Learn id ds l) h = All-cons (IsLearned (pair_count lists)) _ [] (record { row = h.0; fresh = h.2 }) (All-nil (IsLearned (pair_count lists)))
in_fresh lists (Proving s) held (Drop id) h = All-nil (IsLearned (pair_count lists))
in_fresh lists Start held note h = absurd h
in_fresh lists Headed held note h = absurd h
in_fresh lists (Closing s) held note h = absurd h
in_fresh lists (Claimed c) held note h = absurd h
in_fresh lists (Done c) held note h = absurd h

all_fresh : (lists : Lists) (notes : List NoteAt) → All (IsTrueAt lists) notes → All (IsLearned (pair_count lists)) (learned_rows notes)
all_fresh lists [] h = All-nil (IsLearned (pair_count lists))
all_fresh lists (at ∷ notes) h =
    All-append (IsLearned (pair_count lists)) (learned_in at.place at.held at.note) (learned_rows notes) (in_fresh lists at.place at.held at.note (All-head (IsTrueAt lists) at notes h))
    (all_fresh lists notes (All-tail (IsTrueAt lists) at notes h))

pub notes_fresh : TrueNotesLearnFresh
notes_fresh lists bytes h = all_fresh lists (notes_of lists bytes) h

-- ---- how many

-- no line but a note counts a learn note
line-counts : (here : Place) (o : Option Line) (held : Held) → (after_line here o held).learn_notes ≡ held.learn_notes
line-counts (Proving s) None held = refl
line-counts (Proving s) (Some Header) held = refl
line-counts (Proving s) (Some (Count n)) held = refl
line-counts (Proving s) (Some (Pol steps)) held = refl
line-counts (Proving s) (Some (Rup row)) held = refl
line-counts (Proving s) (Some (Soli ls)) held = refl
line-counts (Proving s) (Some (Del ids)) held = refl
line-counts (Proving s) (Some Output) held = refl
line-counts (Proving s) (Some (Conclusion claim)) held = refl
line-counts (Proving s) (Some End) held = refl
line-counts (Proving s) (Some Comment) held = refl
line-counts (Proving s) (Some Blank) held = refl
line-counts Start o held = refl
line-counts Headed o held = refl
line-counts (Closing s) o held = refl
line-counts (Claimed c) o held = refl
line-counts (Done c) o held = refl

-- a true note counts what it learns
note-counts : (lists : Lists) (here : Place) (held now : Held) (note : Note) → IsTrueIn lists here held note → (after_note note now).learn_notes ≡ now.learn_notes + length (learned_in here held note)
note-counts lists (Proving s) held now (UnitRow id) h = omega arith
note-counts lists (Proving s) held now (BoundRow id) h = omega arith
note-counts lists (Proving s) held now (Load trues ids) h = omega arith
note-counts lists (Proving s) held now (Learn id ds l) h = refl
note-counts lists (Proving s) held now (Drop id) h = omega arith
note-counts lists Start held now note h = absurd h
note-counts lists Headed held now note h = absurd h
note-counts lists (Closing s) held now note h = absurd h
note-counts lists (Claimed c) held now note h = absurd h
note-counts lists (Done c) held now note h = absurd h

step-counts : (lists : Lists) (here : Place) (held now : Held) (o : Option Note) → now.learn_notes ≡ held.learn_notes → All (IsTrueAt lists) (noted (record { place = here; held = held }) o) →
    held.learn_notes + length (learned_rows (noted (record { place = here; held = held }) o)) ≡ (after_any_note o now).learn_notes
step-counts lists here held now None same h = omega (arith, same)
step-counts lists here held now (Some note) same h =
    omega (arith, same, note-counts lists here held now note (All-head (IsTrueAt lists) (record { place = here; held = held; note = note }) [] h), length-append (learned_in here held note) [])

all-counted : (lists : Lists) (told : Told) (texts : List (List ℕ)) → All (IsTrueAt lists) (notes_by (formula lists) told texts) →
    told.held.learn_notes + length (learned_rows (notes_by (formula lists) told texts)) ≡ (told_by (formula lists) told texts).held.learn_notes
all-counted lists told [] h = omega arith
all-counted lists told (text ∷ texts) h =
    let here : List NoteAt = noted told (note_in text) in
    let rest : List NoteAt = notes_by (formula lists) (told_after (formula lists) told text) texts in
    omega (
      arith,
      ap length (learned_rows-append here rest),
      length-append (learned_rows here) (learned_rows rest),
      step-counts lists told.place told.held (after_line told.place (read_line text) told.held) (note_in text) (line-counts told.place (read_line text) told.held) (all_front (IsTrueAt lists) here rest h),
      all-counted lists (told_after (formula lists) told text) texts (all_behind (IsTrueAt lists) here rest h),
    )

pub notes_counted : LearnNotesAreCounted
notes_counted lists bytes h = omega (arith, all-counted lists (first_told lists) (cut bytes).whole h)

pub notes_few : LearnNotesAreFew
notes_few lists bytes h bounded = omega (arith, notes_counted lists bytes h, conflicts_few (pair_count lists) (learned_rows (notes_of lists bytes)) (notes_fresh lists bytes h) bounded)
