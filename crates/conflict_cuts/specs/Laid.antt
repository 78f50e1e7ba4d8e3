-- The lines of an analysis, one after another.
use Rattle.std.specs.Prelude.{◌≡◌, ◌≤◌, ◌<◌, ◌+◌, ℕ, IsTrue, List, length, All, Some}
use Rattle.hrt_base.specs.declared.numbered.RowNo.{RowNo}
use Rattle.pb_rows.specs.Terms.{PlainRow}
use Rattle.pb_rows.specs.Formula.{is_numbered, row_of}
use Rattle.rank_tables.specs.WellFormed.{most_pairs}
use Rattle.proof_lines.specs.declared.line.PolStep.{PolStep}
use Rattle.proof_lines.specs.declared.line.Line.TheVariants.{Pol}
use Rattle.proof_rules.specs.States.{IsInOrder as AreNumbersInOrder, with_row}
use Rattle.derivation.specs.Derived.{Derived, StaysValid}
use Rattle.derivation.specs.Pieces.{Adds, IsCutPiece, Piece, TakesLine}
use Rattle.derivation.specs.Ready.{IsReady}
use Rattle.derivation.specs.Traces.{IsKnownStep}
use Rattle.pb_propagate.specs.Engines.{EngineState}
use Rattle.pb_propagate.specs.Moments.{IsInOrder}
use Rattle.conflict_rows.specs.declared.marks.Mark.{Mark}
use Rattle.conflict_rows.specs.Tables.{AreMarks}
use Rattle.engine_trails.specs.History.{history}
use Rattle.agreement.specs.Agreement.{Agree}

-- An analysis can go on: the table is that of the engine's trail, the derivation holds the engine's rows and can take more.
pub record IsSet (e : EngineState) (marks : List Mark) (d : Derived) : Type 0 where
  pub order : IsInOrder e
  pub table : AreMarks marks (history e)
  pub size : length marks ≡ e.vars
  pub few : e.vars ≤ most_pairs
  pub agree : Agree e d
  pub ready : IsReady d
  pub numbered : AreNumbersInOrder d.state

-- The row was made by a `pol` line, whose steps name held rows and rows with at least the number `first`.
pub record MakesRow (first : ℕ) (old new : Derived) (id : RowNo) (row : PlainRow) : Type 0 where
  pub steps : List PolStep
  pub known : All (IsKnownStep old.held first) steps
  pub takes : TakesLine (Pol steps) old new
  pub valid : StaysValid old new
  pub number : id.0 ≡ old.state.next
  pub state : new.state ≡ with_row old.state row

-- Lines of an analysis were added since `old`. Each row that was live is live as it was.
pub record Lays (old new : Derived) : Type 0 where
  pub pieces : List Piece
  pub adds : Adds pieces old new
  pub cuts : All (IsCutPiece old.held old.state.next) pieces
  pub valid : StaysValid old new
  pub ready : IsReady new
  pub live : (n : ℕ) → n < old.state.next → row_of n new.state.live ≡ row_of n old.state.live
  pub held : new.held ≡ old.held
  pub lists : new.lists ≡ old.lists
  pub least : new.state.least ≡ old.state.least
  pub later : old.state.next ≤ new.state.next

-- the row is live under the number, which is that of the row that was made last, in the call
pub record IsNewest (old new : Derived) (id : RowNo) (row : PlainRow) : Type 0 where
  pub own : old.state.next ≤ id.0
  pub number : id.0 + 1 ≡ new.state.next
  pub live : row_of id.0 new.state.live ≡ Some row
  pub made : (n : ℕ) → old.state.next ≤ n → n < new.state.next → IsTrue (is_numbered n new.state.live)
