-- What a text tells after one more line, and after several.
use Rattle.std.proofs.Common.{◌≡◌, ℕ, true, List, [], ◌∷◌, ◌++◌, refl, sym, ap, ap₂, ◌∙◌, subst}
use Rattle.std.specs.Prelude.{Option, Some, None, Result, Ok}
use Rattle.std.proofs.lemmas.List.{append_assoc}
use Rattle.pb_rows.specs.Formula.{Formula}
use Rattle.rank_tables.specs.Instance.{Lists}
use Rattle.stability_model.specs.Model.{formula}
use Rattle.proof_lines.specs.declared.line.Line.{Line}
use Rattle.proof_lines.specs.declared.line.Line.TheVariants.{Comment}
use Rattle.proof_lines.specs.declared.note.Note.{Note}
use Rattle.proof_lines.specs.Spelling.{read_line}
use Rattle.proof_lines.specs.Notes.{note_in}
use Rattle.proof_lines.specs.Texts.{line_text, note_spelling, note_text, spelling}
use Rattle.proof_rules.specs.Refusals.{Refusal}
use Rattle.proof_rules.specs.States.{State, after}
use Rattle.proof_rules.specs.Valid.{Place, Proving, Start}
use Rattle.proof_rules.specs.Texts.{Cut, Reaches, cut, whole_lines}
use Rattle.proof_rules.specs.Held.{Held, NoneIsDeleted}
use Rattle.proof_rules.specs.Told.{Told, first_told, told_after, told_by}
use Rattle.proof_rules.proofs.Pieces.{cut-whole}
use Rattle.proof_rules.proofs.Told.{cut-line, is_one_line, told-reaches}
use Rattle.derivation.specs.Derived.{Derived, IsProofUpTo, StandsFor, place_of}
use Rattle.derivation.specs.Traces.{AreLawful, IsLawfulAt, IsLawfulLine, IsLawfulNote, IsLawfulText, Trace, first_trace, loaded_after, made_after, since_after, trace_after, trace_by, trace_of, units_after}
use Rattle.derivation.specs.Pieces.{ALine, ANote, AddsLawfully, IsLawfulPiece, Piece, StandsTraced, StaysTraced, TakesLine, TakesNote, TakesPiece, traced}
use Rattle.derivation.proofs.Spelled.{line_is_one, line_reads, note_is_one, note_reads}
use Rattle.derivation.proofs.NotesOfLines.{no_note, note_comment}
use Rattle.derivation.proofs.Standing.{stays-note, stays-step}

-- ---- lists of lines

trace_by-append : (f : Formula) (t : Trace) (xs ys : List (List ℕ)) → trace_by f t (xs ++ ys) ≡ trace_by f (trace_by f t xs) ys
trace_by-append f t [] ys = refl
trace_by-append f t (x ∷ xs) ys = trace_by-append f (trace_after f t x) xs ys

lawful-append : (lists : Lists) (t : Trace) (xs ys : List (List ℕ)) → AreLawful lists t xs → AreLawful lists (trace_by (formula lists) t xs) ys → AreLawful lists t (xs ++ ys)
lawful-append lists t [] ys h k = k
lawful-append lists t (x ∷ xs) ys h k = (h.0, lawful-append lists (trace_after (formula lists) t x) xs ys h.1 k)

-- what is told of places and held rows is what is told without the rest
trace-told : (f : Formula) (t : Trace) (texts : List (List ℕ)) → (trace_by f t texts).told ≡ told_by f t.told texts
trace-told f t [] = refl
trace-told f t (text ∷ texts) = trace-told f (trace_after f t text) texts

-- ---- texts

-- the place to which lines lead is told
pub place_told : (lists : Lists) (bytes : List ℕ) (place : Place) → Reaches (formula lists) Start (whole_lines bytes) place → (trace_of lists bytes).told.place ≡ place
place_told lists bytes place reaches =
    ap (λ (t : Told). t.place) (trace-told (formula lists) (first_trace lists) (cut bytes).whole) ∙ told-reaches (formula lists) (first_told lists) (cut bytes).whole place reaches

-- the place and the held rows to which bytes lead are told
pub led-told : (lists : Lists) (bytes : List ℕ) (place : Place) (held : Held) → IsProofUpTo lists bytes place held → (trace_of lists bytes).told ≡ record { place = place; held = held }
led-told lists bytes place held leads =
    trace-told (formula lists) (first_trace lists) (cut bytes).whole
    ∙ ap₂ (λ (p : Place) (h : Held). record { place = p; held = h })
    (told-reaches (formula lists) (first_told lists) (cut bytes).whole place leads.tells.reaches)
    leads.tells.held_is

-- a derivation shows what its text tells of places and held rows
pub shown-told : (text : List ℕ) (d : Derived) → StandsFor text d → (trace_of d.lists (text ++ d.pending)).told ≡ record { place = place_of d.claim d.state; held = d.held }
shown-told text d stands = led-told d.lists (text ++ d.pending) (place_of d.claim d.state) d.held stands

whole-line : (bytes text : List ℕ) → (cut bytes).rest ≡ [] → is_one_line text ≡ true → (cut (bytes ++ (text ++ 10 ∷ []))).whole ≡ (cut bytes).whole ++ text ∷ []
whole-line bytes text whole one =
    ap (λ (c : Cut). c.whole) (cut-whole bytes (text ++ 10 ∷ []) whole)
    ∙ ap (λ (c : Cut). (cut bytes).whole ++ c.whole) (cut-line text one)

pub trace-line : (lists : Lists) (bytes text : List ℕ) → (cut bytes).rest ≡ [] → is_one_line text ≡ true → trace_of lists (bytes ++ (text ++ 10 ∷ [])) ≡ trace_after (formula lists) (trace_of lists bytes) text
trace-line lists bytes text whole one =
    ap (trace_by (formula lists) (first_trace lists)) (whole-line bytes text whole one)
    ∙ trace_by-append (formula lists) (first_trace lists) (cut bytes).whole (text ∷ [])

pub lawful-line : (lists : Lists) (bytes text : List ℕ) → (cut bytes).rest ≡ [] → is_one_line text ≡ true → IsLawfulText lists bytes →
    IsLawfulAt lists (trace_of lists bytes) (trace_of lists bytes).told.place (read_line text) (note_in text) → IsLawfulText lists (bytes ++ (text ++ 10 ∷ []))
lawful-line lists bytes text whole one h k =
    subst (AreLawful lists (first_trace lists)) (sym (whole-line bytes text whole one))
    (lawful-append lists (first_trace lists) (cut bytes).whole (text ∷ []) h (k, tt))

-- ---- one line

-- a line that is known to read so keeps the law
pub at_line : (lists : Lists) (t : Trace) (p : Place) (o : Option Line) (n : Option Note) (s : State) (line : Line) → p ≡ Proving s → o ≡ Some line → n ≡ None → NoneIsDeleted lists s.live t.told.held × IsLawfulLine lists s t line → IsLawfulAt lists t p o n
at_line lists t p o n s line e f g h =
    subst (λ (x : Place). IsLawfulAt lists t x o n) (sym e)
    (subst (λ (x : Option Line). IsLawfulAt lists t (Proving s) x n) (sym f) (subst (λ (x : Option Note). IsLawfulAt lists t (Proving s) (Some line) x) (sym g) h))

-- and so does one that is known to say the note
at_note : (lists : Lists) (t : Trace) (p : Place) (o : Option Line) (n : Option Note) (s : State) (note : Note) → p ≡ Proving s → o ≡ Some Comment → n ≡ Some note → NoneIsDeleted lists s.live t.told.held × IsLawfulNote lists s t note → IsLawfulAt lists t p o n
at_note lists t p o n s note e f g h =
    subst (λ (x : Place). IsLawfulAt lists t x o n) (sym e)
    (subst (λ (x : Option Line). IsLawfulAt lists t (Proving s) x n) (sym f) (subst (λ (x : Option Note). IsLawfulAt lists t (Proving s) (Some Comment) x) (sym g) h))

-- what is told after a line of which it is known how it reads
pub after_any : (f : Formula) (t : Trace) (text : List ℕ) (told : Told) (o : Option Line) (n : Option Note) (p : Place) → t.told.place ≡ p → read_line text ≡ o → note_in text ≡ n → told_after f t.told text ≡ told →
    trace_after f t text ≡ record { told = told; since = since_after p o n t.since; units = units_after p n t.units; made = made_after p o t.made; loaded = loaded_after n t.loaded }
after_any f t text told o n p e r m same =
    let so : Told → Place → Option Line → Option Note → Trace = λ x y l k. record { told = x; since = since_after y l k t.since; units = units_after y k t.units; made = made_after y l t.made; loaded = loaded_after k t.loaded } in
    ap (λ (x : Told). so x t.told.place (read_line text) (note_in text)) same
    ∙ ap (λ (y : Place). so told y (read_line text) (note_in text)) e
    ∙ ap₂ (λ (l : Option Line) (k : Option Note). so told p l k) r m

after_reading : (f : Formula) (t : Trace) (text : List ℕ) (told : Told) (o : Option Line) (n : Option Note) (s : State) → t.told.place ≡ Proving s → read_line text ≡ o → note_in text ≡ n → told_after f t.told text ≡ told →
    trace_after f t text ≡ record { told = told; since = since_after (Proving s) o n t.since; units = units_after (Proving s) n t.units; made = made_after (Proving s) o t.made; loaded = loaded_after n t.loaded }
after_reading f t text told o n s = after_any f t text told o n (Proving s)

-- a line that takes a step is no comment
no_comment : (f : Formula) (s t : State) (line : Line) → after f s line ≡ Ok t → line ≡ Comment → ⊥
no_comment f s t line e is = let wrong : ◌≡◌ {A = Result State Refusal} (after f s Comment) (Ok t) = ap (after f s) (sym is) ∙ e in absurd (cc)

-- the place of a derivation that isn't concluded
pub open_place : (text : List ℕ) (d : Derived) (t : Trace) → StandsTraced text d t → d.claim ≡ None → t.told ≡ record { place = Proving d.state; held = d.held }
open_place text d t st e =
    ap (λ (x : Trace). x.told) (sym st.trace) ∙ shown-told text d st.stands ∙ ap (λ (c : Option _). record { place = place_of c d.state; held = d.held }) e

module _ (text : List ℕ) (old new : Derived) (t : Trace) (line : Line) (st : StandsTraced text old t) (takes : TakesLine line old new) (lawful : IsLawfulPiece old t (ALine line)) where
  reads : read_line (spelling line) ≡ Some line
  reads = line_reads line takes.writable

  other : line ≡ Comment → ⊥
  other = no_comment (formula old.lists) old.state new.state line takes.takes.step.leads

  silent : note_in (spelling line) ≡ None
  silent = no_note (spelling line) line reads other

  before : t.told ≡ record { place = Proving old.state; held = old.held }
  before = open_place text old t st takes.unconcluded

  stands_now : StandsFor text new
  stands_now = stays-step line old new takes.writable other takes.unconcluded takes.takes text st.stands

  same_lists : new.lists ≡ old.lists
  same_lists = ap (λ (d : Derived). d.lists) takes.takes.is

  still_open : new.claim ≡ None
  still_open = ap (λ (d : Derived). d.claim) takes.takes.is ∙ takes.unconcluded

  bytes_are : text ++ new.pending ≡ (text ++ old.pending) ++ line_text line
  bytes_are = ap (λ (d : Derived). text ++ d.pending) takes.takes.is ∙ sym (append_assoc text old.pending (line_text line))

  one_more : trace_of new.lists (text ++ new.pending) ≡ trace_after (formula old.lists) t (spelling line)
  one_more =
      ap₂ trace_of same_lists bytes_are
      ∙ trace-line old.lists (text ++ old.pending) (spelling line) st.stands.tells.whole (line_is_one line takes.writable)
      ∙ ap (λ (x : Trace). trace_after (formula old.lists) x (spelling line)) st.trace

  told_now : told_after (formula old.lists) t.told (spelling line) ≡ record { place = Proving new.state; held = new.held }
  told_now =
      ap (λ (x : Trace). x.told) (sym one_more) ∙ shown-told text new stands_now
      ∙ ap (λ (c : Option _). record { place = place_of c new.state; held = new.held }) still_open

  line_law : IsLawfulAt old.lists t t.told.place (read_line (spelling line)) (note_in (spelling line))
  line_law =
      at_line old.lists t t.told.place (read_line (spelling line)) (note_in (spelling line)) old.state line (ap (λ (x : Told). x.place) before) reads silent
      (subst (NoneIsDeleted old.lists old.state.live) (sym (ap (λ (x : Told). x.held) before)) lawful.0, lawful.1)

  line_lawful : IsLawfulText new.lists (text ++ new.pending)
  line_lawful =
      subst (λ (l : Lists). IsLawfulText l (text ++ new.pending)) (sym same_lists)
      (subst (IsLawfulText old.lists) (sym bytes_are)
      (lawful-line old.lists (text ++ old.pending) (spelling line) st.stands.tells.whole (line_is_one line takes.writable) st.lawful
      (subst (λ (x : Trace). IsLawfulAt old.lists x x.told.place (read_line (spelling line)) (note_in (spelling line))) (sym st.trace) line_law)))

  pub line_traced : StandsTraced text new (traced (ALine line) old new t)
  line_traced = record {
    stands = stands_now;
    trace = one_more ∙ after_reading (formula old.lists) t (spelling line) (record { place = Proving new.state; held = new.held }) (Some line) None old.state
        (ap (λ (x : Told). x.place) before) reads silent told_now;
    lawful = line_lawful;
  }

-- ---- one note

module _ (text : List ℕ) (old new : Derived) (t : Trace) (note : Note) (st : StandsTraced text old t) (takes : TakesNote note old new) (lawful : IsLawfulPiece old t (ANote note)) where
  says : note_in (note_spelling note) ≡ Some note
  says = note_reads note takes.made takes.short

  comment : read_line (note_spelling note) ≡ Some Comment
  comment = note_comment (note_spelling note) note says

  before_note : t.told ≡ record { place = Proving old.state; held = old.held }
  before_note = open_place text old t st takes.unconcluded

  noted_now : StandsFor text new
  noted_now = stays-note note old new takes.made takes.short takes.so takes.unconcluded takes.is text st.stands

  lists_same : new.lists ≡ old.lists
  lists_same = ap (λ (d : Derived). d.lists) takes.is

  open_still : new.claim ≡ None
  open_still = ap (λ (d : Derived). d.claim) takes.is ∙ takes.unconcluded

  bytes_now : text ++ new.pending ≡ (text ++ old.pending) ++ note_text note
  bytes_now = ap (λ (d : Derived). text ++ d.pending) takes.is ∙ sym (append_assoc text old.pending (note_text note))

  note_more : trace_of new.lists (text ++ new.pending) ≡ trace_after (formula old.lists) t (note_spelling note)
  note_more =
      ap₂ trace_of lists_same bytes_now
      ∙ trace-line old.lists (text ++ old.pending) (note_spelling note) st.stands.tells.whole (note_is_one note takes.made)
      ∙ ap (λ (x : Trace). trace_after (formula old.lists) x (note_spelling note)) st.trace

  note_told : told_after (formula old.lists) t.told (note_spelling note) ≡ record { place = Proving new.state; held = new.held }
  note_told =
      ap (λ (x : Trace). x.told) (sym note_more) ∙ shown-told text new noted_now
      ∙ ap (λ (c : Option _). record { place = place_of c new.state; held = new.held }) open_still

  note_law : IsLawfulAt old.lists t t.told.place (read_line (note_spelling note)) (note_in (note_spelling note))
  note_law =
      at_note old.lists t t.told.place (read_line (note_spelling note)) (note_in (note_spelling note)) old.state note (ap (λ (x : Told). x.place) before_note) comment says
      (subst (NoneIsDeleted old.lists old.state.live) (sym (ap (λ (x : Told). x.held) before_note)) lawful.0, lawful.1)

  note_lawful : IsLawfulText new.lists (text ++ new.pending)
  note_lawful =
      subst (λ (l : Lists). IsLawfulText l (text ++ new.pending)) (sym lists_same)
      (subst (IsLawfulText old.lists) (sym bytes_now)
      (lawful-line old.lists (text ++ old.pending) (note_spelling note) st.stands.tells.whole (note_is_one note takes.made) st.lawful
      (subst (λ (x : Trace). IsLawfulAt old.lists x x.told.place (read_line (note_spelling note)) (note_in (note_spelling note))) (sym st.trace) note_law)))

  pub note_traced : StandsTraced text new (traced (ANote note) old new t)
  note_traced = record {
    stands = noted_now;
    trace = note_more ∙ after_reading (formula old.lists) t (note_spelling note) (record { place = Proving new.state; held = new.held }) (Some Comment) (Some note) old.state
        (ap (λ (x : Told). x.place) before_note) comment says note_told;
    lawful = note_lawful;
  }

-- ---- pieces

pub piece_traced : (text : List ℕ) (old new : Derived) (t : Trace) (piece : Piece) → StandsTraced text old t → TakesPiece piece old new → IsLawfulPiece old t piece → StandsTraced text new (traced piece old new t)
piece_traced text old new t (ALine line) st takes lawful = line_traced text old new t line st takes lawful
piece_traced text old new t (ANote note) st takes lawful = note_traced text old new t note st takes lawful

pub pieces_traced : StaysTraced
pieces_traced text [] old new t u st adds = subst (λ (d : Derived). StandsTraced text d u) (sym adds.0) (subst (StandsTraced text old) (sym adds.1) st)
pieces_traced text (piece ∷ pieces) old new t u st adds =
    pieces_traced text pieces adds.0 new (traced piece old adds.0 t) u (piece_traced text old adds.0 t piece st adds.1 adds.2) adds.3

-- what was added in two parts
pub adds_lawfully-append : (xs ys : List Piece) (a b c : Derived) (t u v : Trace) → AddsLawfully xs a t b u → AddsLawfully ys b u c v → AddsLawfully (xs ++ ys) a t c v
adds_lawfully-append [] ys a b c t u v one two = subst (λ (d : Derived). AddsLawfully ys d t c v) one.0 (subst (λ (x : Trace). AddsLawfully ys b x c v) one.1 two)
adds_lawfully-append (piece ∷ xs) ys a b c t u v one two =
    (one.0, one.1, one.2, adds_lawfully-append xs ys one.0 b c (traced piece a one.0 t) u v one.3 two)
