-- Lines and notes that were added to a derivation one after another, and what they make of what its text tells.
use Rattle.std.specs.Prelude.{◌≡◌, ◌≤◌, ◌<◌, ℕ, ◌+◌, IsTrue, List, [], ◌∷◌, ◌++◌, length, All, Some, None}
use Rattle.hrt_base.specs.declared.numbered.RowNo.{RowNo}
use Rattle.rank_tables.specs.Instance.{Lists}
use Rattle.rank_tables.specs.Numbers.{is_in}
use Rattle.proof_lines.specs.declared.line.Line.{Line}
use Rattle.proof_lines.specs.declared.line.Claim.{Claim}
use Rattle.proof_lines.specs.declared.line.Line.TheVariants.{Conclusion, Count, Del, Pol}
use Rattle.proof_lines.specs.declared.note.Note.{Note}
use Rattle.proof_lines.specs.Spelling.{most_bytes}
use Rattle.proof_lines.specs.Texts.{is_spellable_note, note_text}
use Rattle.stability_model.specs.Model.{formula, rows}
use Rattle.proof_rules.specs.Claims.{Shows}
use Rattle.proof_rules.specs.States.{IsInOrder, first_state}
use Rattle.proof_rules.specs.Valid.{Done, Proving}
use Rattle.proof_rules.specs.Held.{Held, NoneIsDeleted, first_held}
use Rattle.proof_rules.specs.Notes.{IsTrueNote}
use Rattle.derivation.specs.Derived.{Derived, StandsFor}
use Rattle.derivation.specs.Steps.{IsWritable, Takes, concluded, first_derived, with_note}
use Rattle.derivation.specs.Traces.{IsKnownStep, IsLawfulLine, IsLawfulNote, IsLawfulText, Trace, loaded_after, made_after, most_between, since_line, since_note, trace_of, units_after}

-- a line or a note
pub data Piece : Type 0 where
  ALine : Line → Piece
  ANote : Note → Piece

-- the line was added
pub record TakesLine (line : Line) (old new : Derived) : Type 0 where
  pub writable : IsWritable line
  pub unconcluded : old.claim ≡ None
  pub takes : Takes line old new

-- the note, which is true, was added
pub record TakesNote (note : Note) (old new : Derived) : Type 0 where
  pub made : IsTrue (is_spellable_note note)
  pub short : length (note_text note) ≤ most_bytes
  pub unconcluded : old.claim ≡ None
  pub so : IsTrueNote old.lists old.state.live old.held note
  pub is : new ≡ with_note note old

-- the line or the note was added
abbrev pub TakesPiece : Piece → Derived → Derived → Type 0
TakesPiece (ALine line) old new = TakesLine line old new
TakesPiece (ANote note) old new = TakesNote note old new

-- lines and notes were added one after another
abbrev pub Adds : List Piece → Derived → Derived → Type 0
Adds [] old new = new ≡ old
Adds (piece ∷ pieces) old new = (between : Derived) × TakesPiece piece old between × Adds pieces between new

-- ---- what the text tells

-- where the text leads and which rows it holds are what the derivation shows; the rest of what it tells is this, and its lines keep
-- the law of a search
pub record StandsTraced (text : List ℕ) (d : Derived) (t : Trace) : Type 0 where
  pub stands : StandsFor text d
  pub trace : trace_of d.lists (text ++ d.pending) ≡ t
  pub lawful : IsLawfulText d.lists (text ++ d.pending)

-- what is told after one of them
abbrev pub traced : Piece → Derived → Derived → Trace → Trace
traced (ALine line) old new t = record {
  told = record { place = Proving new.state; held = new.held };
  since = since_line old.state.next line t.since;
  units = t.units;
  made = made_after (Proving old.state) (Some line) t.made;
  loaded = t.loaded;
}
traced (ANote note) old new t = record {
  told = record { place = Proving new.state; held = new.held };
  since = since_note old.state.next note t.since;
  units = units_after (Proving old.state) (Some note) t.units;
  made = t.made;
  loaded = loaded_after (Some note) t.loaded;
}

-- the line or the note keeps the law
abbrev pub IsLawfulPiece : Derived → Trace → Piece → Type 0
IsLawfulPiece d t (ALine line) = NoneIsDeleted d.lists d.state.live d.held × IsLawfulLine d.lists d.state t line
IsLawfulPiece d t (ANote note) = NoneIsDeleted d.lists d.state.live d.held × IsLawfulNote d.lists d.state t note

-- lines and notes that keep the law were added one after another, and this is what is told before and after them
abbrev pub AddsLawfully : List Piece → Derived → Trace → Derived → Trace → Type 0
AddsLawfully [] old t new u = (new ≡ old) × (u ≡ t)
AddsLawfully (piece ∷ pieces) old t new u = (between : Derived) × TakesPiece piece old between × IsLawfulPiece old t piece × AddsLawfully pieces between (traced piece old between t) new u

-- what is told before any step: the header and the count
abbrev pub opened : Lists → Trace
opened lists = record { told = record { place = Proving (first_state (formula lists)); held = first_held lists }; since = None; units = []; made = []; loaded = [] }

-- a new derivation stands for the empty text with the law
abbrev pub StartsTraced : Type 0
StartsTraced = (lists : Lists) → IsWritable (Count (length (rows lists))) → StandsFor [] (first_derived lists) → StandsTraced [] (first_derived lists) (opened lists)

-- and once it is concluded its lines keep the law, and the rest of what is told is as before
abbrev pub EndsLawful : Type 0
EndsLawful = (text : List ℕ) (d : Derived) (t : Trace) (claim : Claim) → StandsTraced text d t → d.claim ≡ None → NoneIsDeleted d.lists d.state.live d.held → IsWritable (Conclusion claim) → Shows (formula d.lists) d.state claim →
    StandsTraced text (concluded claim d) (record t { told = record { place = Done claim; held = d.held } })

-- for whatever text a derivation stood before lines and notes that keep the law, it stands for that text after them
abbrev pub StaysTraced : Type 0
StaysTraced = (text : List ℕ) (pieces : List Piece) (old new : Derived) (t u : Trace) → StandsTraced text old t → AddsLawfully pieces old t new u → StandsTraced text new u

-- ---- an analysis

-- steps whose rows are held or have at least this number, or a deletion of rows that have
abbrev pub IsCutPiece : Held → ℕ → Piece → Type 0
IsCutPiece held first (ALine (Pol steps)) = All (IsKnownStep held first) steps
IsCutPiece held first (ALine (Del ids)) = All (λ (id : RowNo). first ≤ id.0) ids
IsCutPiece held first piece = ⊥

-- `pol` lines and `del` lines alone were added. The steps name held rows and rows that were made in this call; only such are
-- deleted; and no more rows were made than may be between two marks.
pub record AddsCuts (old new : Derived) : Type 0 where
  pub pieces : List Piece
  pub adds : Adds pieces old new
  pub cuts : All (IsCutPiece old.held old.state.next) pieces
  pub few : new.state.next ≤ old.state.next + most_between old.lists

-- what is told after an analysis: nothing but `pol` rows came, and those that were made in it are told to be
pub record IsAfterCuts (old new : Derived) (t u : Trace) : Type 0 where
  pub since : u.since ≡ t.since
  pub units : u.units ≡ t.units
  pub loaded : u.loaded ≡ t.loaded
  pub made_before : (n : ℕ) → IsTrue (is_in n t.made) → IsTrue (is_in n u.made)
  pub made_here : (n : ℕ) → old.state.next ≤ n → n < new.state.next → IsTrue (is_in n u.made)

-- an analysis that begins where no row was made since the last mark keeps the law
abbrev pub CutsStayTraced : Type 0
CutsStayTraced = (text : List ℕ) (old new : Derived) (t : Trace) → StandsTraced text old t → old.claim ≡ None → IsInOrder old.state → NoneIsDeleted old.lists old.state.live old.held → t.since ≡ Some old.state.next → AddsCuts old new →
    (u : Trace) × StandsTraced text new u × IsAfterCuts old new t u
