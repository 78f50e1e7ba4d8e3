-- What holds of full engines that agree with a derivation, and of texts in which rows of pairs are loaded.
use Rattle.std.specs.Prelude.{◌≡◌, ◌≤◌, ℕ, IsTrue, List, [], ◌∷◌, ◌++◌, length, is_some, Some, Contains}
use Rattle.std.specs.List.{All}
use Rattle.hrt_base.specs.declared.numbered.PairNo.{PairNo}
use Rattle.hrt_base.specs.declared.numbered.RowNo.{RowNo}
use Rattle.rank_tables.specs.Instance.{Lists}
use Rattle.rank_tables.specs.Numbers.{is_in}
use Rattle.rank_tables.specs.Stability.{is_matching}
use Rattle.rank_tables.specs.Tables.{IsPairNo}
use Rattle.stability_model.specs.Model.{pair_row_no}
use Rattle.proof_lines.specs.declared.note.Note.{Note}
use Rattle.proof_lines.specs.declared.note.Note.TheVariants.{Load}
use Rattle.proof_rules.specs.States.{IsInOrder as IsStateInOrder}
use Rattle.proof_rules.specs.Valid.{Place, Proving}
use Rattle.proof_rules.specs.Texts.{cut}
use Rattle.proof_rules.specs.Held.{Held, held_rows, is_held, row_numbers}
use Rattle.proof_rules.specs.Notes.{HonestLoad}
use Rattle.proof_rules.specs.Told.{AreTrueNotes, NoteAt, held_by, notes_of}
use Rattle.derivation.specs.Derived.{Derived}
use Rattle.derivation.specs.Ready.{IsReady}
use Rattle.derivation.specs.Steps.{first_derived, with_note}
use Rattle.derivation.specs.Traces.{IsLawfulText, Trace}
use Rattle.derivation.specs.Pieces.{ANote, AddsLawfully, TakesNote}
use Rattle.pb_propagate.specs.Engines.{EngineState, IsIdle}
use Rattle.pb_propagate.specs.Moments.{IsInOrder}
use Rattle.agreement.specs.Agreement.{Agree}
use Rattle.lazy_stability.specs.Candidates.{IsFull, candidate}
use Rattle.lazy_stability.specs.Loads.{load_note, row_numbers_of}

-- ---- full engines

-- where no variable is free each has a value
abbrev pub FullWhereNoneIsFree : Type 0
FullWhereNoneIsFree = (e : EngineState) → IsInOrder e → length e.trail ≡ e.vars → IsFull e

-- the rows of residents and of hospitals stay held
abbrev pub FirstStayHeld : Derived → Type 0
FirstStayHeld d = (n : ℕ) → 1 ≤ n → n ≤ pair_row_no d.lists 0 → IsTrue (is_in n d.held.kept)

-- they do at the start of a proof
abbrev pub StartsHoldFirst : Type 0
StartsHoldFirst = (lists : Lists) → FirstStayHeld (first_derived lists)

-- they do after whatever note
abbrev pub NotesKeepFirst : Type 0
NotesKeepFirst = (d : Derived) (note : Note) → FirstStayHeld d → FirstStayHeld (with_note note d)

-- where they are held, a full quiet engine that agrees has a matching for its candidate
abbrev pub CandidatesAreMatchings : Type 0
CandidatesAreMatchings = (e : EngineState) (d : Derived) → Agree e d → IsStateInOrder d.state → IsReady d → FirstStayHeld d → IsInOrder e → IsFull e → IsIdle e → IsTrue (is_matching d.lists (candidate d.lists e))

-- ---- a load

-- what is told after a load: its rows are loaded, and the next row is the first after a mark
abbrev pub after_load : Derived → Derived → List PairNo → Trace → Trace
after_load old new pairs t = record t {
  told = record { place = Proving new.state; held = new.held };
  since = Some old.state.next;
  loaded = t.loaded ++ row_numbers (row_numbers_of old.lists pairs);
}

-- behind the bound note a load keeps the law of a written proof
abbrev pub LoadsAreLawful : Type 0
LoadsAreLawful = (old new : Derived) (t : Trace) (m : List ℕ) (pairs : List PairNo) → IsReady old → IsTrue (is_some t.since) → TakesNote (load_note old.lists m pairs) old new → AddsLawfully (ANote (load_note old.lists m pairs) ∷ []) old t new (after_load old new pairs t)

-- ---- texts

-- a load note stands among the steps and is honest there
abbrev pub IsHonest : Lists → Place → Held → Note → Type 0
IsHonest lists (Proving s) held (Load trues ids) = HonestLoad lists (held_rows s.live held) trues ids
IsHonest lists place held (Load trues ids) = ⊥
IsHonest lists place held note = Unit {0}

-- one of the notes is a load note that names the row
pub record IsLoadedBy (notes : List NoteAt) (n : ℕ) : Type 0 where
  pub at : NoteAt
  pub stands : Contains notes at
  pub trues : List ℕ
  pub ids : List RowNo
  pub is : at.note ≡ Load trues ids
  pub names : IsTrue (is_in n (row_numbers ids))

-- Each load note is honest, and after whichever whole lines each row of a pair that is held was named by a load note among them.
pub record AreRowsLazy (lists : Lists) (bytes : List ℕ) : Type 0 where
  pub honest : All (λ at. IsHonest lists at.place at.held at.note) (notes_of lists bytes)
  pub loaded : (front back : List ℕ) → bytes ≡ front ++ back → (cut front).rest ≡ [] → (p : ℕ) → IsPairNo lists p → IsTrue (is_held (held_by lists front) (pair_row_no lists p)) → IsLoadedBy (notes_of lists front) (pair_row_no lists p)

-- a text that keeps the law and whose notes are true has lazy rows
abbrev pub LawfulRowsAreLazy : Type 0
LawfulRowsAreLazy = (lists : Lists) (bytes : List ℕ) → IsLawfulText lists bytes → AreTrueNotes lists bytes → AreRowsLazy lists bytes
