-- What leaves an engine and a derivation in agreement, or brings them to it again.
use Rattle.std.specs.Prelude.{◌≡◌, ◌||◌, ℕ, IsTrue, IsFalse, List, [], ◌∷◌, ◌++◌, Some}
use Rattle.std.specs.List.{All}
use Rattle.hrt_base.specs.declared.numbered.RowNo.{RowNo}
use Rattle.pb_rows.specs.Terms.{PlainRow}
use Rattle.pb_rows.specs.Formula.{row_of}
use Rattle.rank_tables.specs.Numbers.{is_distinct, is_in}
use Rattle.proof_lines.specs.declared.line.Line.TheVariants.{Del, Pol}
use Rattle.proof_lines.specs.declared.line.PolStep.{PolStep}
use Rattle.proof_lines.specs.declared.note.Note.{Note}
use Rattle.proof_lines.specs.declared.note.Note.TheVariants.{Unit as UnitRow, Bound as BoundRow, Load, Learn, Drop}
use Rattle.proof_rules.specs.States.{IsInOrder}
use Rattle.proof_rules.specs.Held.{is_held, row_numbers}
use Rattle.row_arena.specs.Held.{Held}
use Rattle.pb_propagate.specs.Engines.{EngineState}
use Rattle.derivation.specs.Derived.{Derived}
use Rattle.derivation.specs.Steps.{Takes, emptied, with_note}
use Rattle.derivation.specs.Pieces.{AddsCuts}
use Rattle.agreement.specs.Agreement.{Agree, IsLiveIn, tags}

-- ---- engines

-- the engine holds the same rows and more behind them, over the same variables
pub record HoldsMoreRows (added : List Held) (e f : EngineState) : Type 0 where
  pub vars : f.vars ≡ e.vars
  pub held : f.held ≡ e.held ++ added

-- the engine holds the same rows over the same variables, whatever became of its trail
pub record HoldsSameRows (e f : EngineState) : Type 0 where
  pub vars : f.vars ≡ e.vars
  pub held : f.held ≡ e.held

-- ---- derivations

-- each row that was held and live is live as it was
abbrev pub KeepsHeldRows : Derived → Derived → Type 0
KeepsHeldRows old new = (n : ℕ) (row : PlainRow) → IsTrue (is_held old.held n) → row_of n old.state.live ≡ Some row → row_of n new.state.live ≡ Some row

-- the same numbers are held, and their rows are live as they were
pub record LeavesHeld (old new : Derived) : Type 0 where
  pub lists : new.lists ≡ old.lists
  pub held : new.held ≡ old.held
  pub rows : KeepsHeldRows old new

-- these numbers are held besides, and the rows that were held are live as they were
pub record HoldsBesides (numbers : List ℕ) (old new : Derived) : Type 0 where
  pub lists : new.lists ≡ old.lists
  pub held : (n : ℕ) → is_held new.held n ≡ (is_held old.held n || is_in n numbers)
  pub rows : KeepsHeldRows old new

-- ---- both

-- the rows go by these numbers, which are distinct and weren't held, and each is the live row of its number
pub record AreNewRows (old new : Derived) (added : List Held) (numbers : List ℕ) : Type 0 where
  pub tags_are : tags added ≡ numbers
  pub distinct : IsTrue (is_distinct numbers)
  pub not_held : All (λ n. IsFalse (is_held old.held n)) numbers
  pub live : All (IsLiveIn new) added

abbrev pub AgreementFollowsEngines : Type 0
AgreementFollowsEngines = (e f : EngineState) (d : Derived) → Agree e d → HoldsSameRows e f → Agree f d

abbrev pub AgreementFollowsDerivations : Type 0
AgreementFollowsDerivations = (e : EngineState) (old new : Derived) → Agree e old → LeavesHeld old new → Agree e new

abbrev pub AgreementGrows : Type 0
AgreementGrows = (e f : EngineState) (old new : Derived) (added : List Held) (numbers : List ℕ) → Agree e old → HoldsBesides numbers old new → AreNewRows old new added numbers → HoldsMoreRows added e f → Agree f new

-- ---- lines and notes

-- a `pol` line
abbrev pub StepsLeaveHeld : Type 0
StepsLeaveHeld = (old new : Derived) (steps : List PolStep) → Takes (Pol steps) old new → LeavesHeld old new

-- a `del` line of rows that aren't held
abbrev pub DeletionsLeaveHeld : Type 0
DeletionsLeaveHeld = (old new : Derived) (ids : List RowNo) → All (λ (id : RowNo). IsFalse (is_held old.held id.0)) ids → Takes (Del ids) old new → LeavesHeld old new

-- an analysis, where what is held is live
abbrev pub CutsLeaveHeld : Type 0
CutsLeaveHeld = (e : EngineState) (old new : Derived) → Agree e old → IsInOrder old.state → AddsCuts old new → LeavesHeld old new

-- the pending bytes are sent
abbrev pub SendsLeaveHeld : Type 0
SendsLeaveHeld = (d : Derived) → LeavesHeld d (emptied d)

-- a note that holds rows
abbrev pub IsHolding : Note → Type 0
IsHolding (Drop id) = ⊥
IsHolding note = Unit {0}

-- the numbers that a note holds
abbrev pub numbers_held : Note → List ℕ
numbers_held (UnitRow id) = id.0 ∷ []
numbers_held (BoundRow id) = id.0 ∷ []
numbers_held (Load trues ids) = row_numbers ids
numbers_held (Learn id decisions l) = id.0 ∷ []
numbers_held (Drop id) = []

-- a unit, bound, load or learn note
abbrev pub NotesHoldMore : Type 0
NotesHoldMore = (d : Derived) (note : Note) → IsHolding note → HoldsBesides (numbers_held note) d (with_note note d)
