-- The rows that a derivation learned since it was another one, whatever text stood before it.
use Rattle.std.specs.Prelude.{◌≡◌, ℕ, ◌+◌, ◌*◌, ◌-◌, ◌^◌, ◌≤◌, IsTrue, List, [], ◌∷◌, ◌++◌, length, All}
use Rattle.rank_tables.specs.Instance.{pair_count}
use Rattle.proof_lines.specs.declared.note.Note.{Note}
use Rattle.proof_rules.specs.Valid.{Proving}
use Rattle.proof_rules.specs.Notes.{LearnedRow, is_greater}
use Rattle.proof_rules.specs.Told.{learned_in, learned_rows, notes_of}
use Rattle.derivation.specs.Derived.{Derived, StandsFor, StaysValid}
use Rattle.derivation.specs.Pieces.{Adds, Piece, TakesNote}
use Rattle.conflict_bound.specs.Sizes.{AreSizes}
use Rattle.conflict_bound.specs.Conflicts.{AreLater, ConflictsBounded, IsEnded, all_of}

-- ---- what is added

-- lines were added, and whatever text the derivation stood for it stands for after them
pub record GoesOn (old new : Derived) : Type 0 where
  pub lists : new.lists ≡ old.lists
  pub more : List ℕ
  pub pending : new.pending ≡ old.pending ++ more
  pub valid : StaysValid old new

-- these rows are learned by what the second derivation has beyond the first one
abbrev pub AddsLearned : List LearnedRow → Derived → Derived → Type 0
AddsLearned more old new =
    (text : List ℕ) → StandsFor text old → learned_rows (notes_of old.lists (text ++ new.pending)) ≡ learned_rows (notes_of old.lists (text ++ old.pending)) ++ more

-- lines and notes that are added one after another, and stay valid, go on
abbrev pub PiecesGoOn : Type 0
PiecesGoOn = (pieces : List Piece) (old new : Derived) → Adds pieces old new → StaysValid old new → GoesOn old new

-- where no learn note is counted more, nothing is learned
abbrev pub UncountedLearnNothing : Type 0
UncountedLearnNothing = (old new : Derived) → GoesOn old new → new.held.learn_notes ≡ old.held.learn_notes → AddsLearned [] old new

-- a note learns what it says
abbrev pub NotesLearn : Type 0
NotesLearn = (note : Note) (old new : Derived) → TakesNote note old new → AddsLearned (learned_in (Proving old.state) old.held note) old new

-- ---- since another derivation

-- the sizes of the last of some rows; none of no rows
abbrev pub HasLastSizes : ℕ → List LearnedRow → List ℕ → Type 0
HasLastSizes vars [] sizes = sizes ≡ []
HasLastSizes vars (a ∷ []) sizes = AreSizes vars a sizes
HasLastSizes vars (a ∷ b ∷ more) sizes = HasLastSizes vars (b ∷ more) sizes

-- The derivation went on from the first one. So many restarts were made, so many rows were learned since the last one, and these
-- are the sizes of the last of them.
pub record HasLearned (first now : Derived) (restarts since : ℕ) (last : List ℕ) : Type 0 where
  pub lists : now.lists ≡ first.lists
  pub valid : StaysValid first now
  pub ended : List (List LearnedRow)
  pub current : List LearnedRow
  pub adds : AddsLearned (all_of ended ++ current) first now
  pub stretches : All (IsEnded (pair_count first.lists)) ended
  pub later : AreLater (pair_count first.lists) current
  pub last_is : HasLastSizes (pair_count first.lists) current last
  pub restarts_are : length ended ≡ restarts
  pub since_is : length current ≡ since

-- at the start
abbrev pub NothingIsLearned : Type 0
NothingIsLearned = (d : Derived) → HasLearned d d 0 0 []

-- lines that learn nothing
abbrev pub LinesKeepLearned : Type 0
LinesKeepLearned = (first now new : Derived) (restarts since : ℕ) (last : List ℕ) → HasLearned first now restarts since last → GoesOn now new → AddsLearned [] now new → HasLearned first new restarts since last

-- a row that is later than the last one
abbrev pub LaterRowIsLearned : Type 0
LaterRowIsLearned = (first now new : Derived) (restarts since : ℕ) (last sizes : List ℕ) (row : LearnedRow) → HasLearned first now restarts since last → GoesOn now new → AddsLearned (row ∷ []) now new →
    AreSizes (pair_count first.lists) row sizes → IsTrue (is_greater sizes last) → HasLearned first new restarts (since + 1) sizes

-- a restart after 100 rows or more ends a stretch
abbrev pub RestartEndsStretch : Type 0
RestartEndsStretch = (first now : Derived) (restarts since : ℕ) (last : List ℕ) → HasLearned first now restarts since last → 100 ≤ since → HasLearned first now (restarts + 1) 0 []

-- ---- the end

-- where the first derivation had learned nothing, the conflicts of the whole text are bounded
abbrev pub LearnedIsBounded : Type 0
LearnedIsBounded = (first now : Derived) (restarts since : ℕ) (last text : List ℕ) → HasLearned first now restarts since last → restarts ≤ 10000 → first.held.learn_notes ≡ 0 → StandsFor text first →
    ConflictsBounded (pair_count now.lists) (learned_rows (notes_of now.lists (text ++ now.pending)))

-- and so are its learn notes, which a derivation counts
abbrev pub CountedIsBounded : Type 0
CountedIsBounded = (first now : Derived) (restarts since : ℕ) (last text : List ℕ) → HasLearned first now restarts since last → restarts ≤ 10000 → first.held.learn_notes ≡ 0 → StandsFor text first →
    now.held.learn_notes ≤ 10001 * (2 ^ pair_count now.lists - 1)
