-- What an analysis learns, and what it does to a derivation.
use Rattle.std.specs.Prelude.{◌≡◌, ◌≤◌, ◌<◌, ℕ, IsTrue, Some}
use Rattle.hrt_base.specs.declared.literal.Lit.{Lit}
use Rattle.hrt_base.specs.declared.numbered.RowNo.{RowNo}
use Rattle.pb_rows.specs.Terms.{PlainRow, coef_sum}
use Rattle.pb_rows.specs.Rows.{IsShort}
use Rattle.pb_rows.specs.Formula.{is_numbered, row_of}
use Rattle.pb_rows.specs.Closure.{Keeps}
use Rattle.propagation.specs.Following.{IsOver}
use Rattle.pb_propagate.specs.Entries.{level_of}
use Rattle.pb_propagate.specs.Engines.{EngineState, set_at}
use Rattle.pb_propagate.specs.Open.{PropagatesLit}
use Rattle.conflict_rows.specs.ClauseRows.{last_clause}
use Rattle.engine_trails.specs.History.{history}
use Rattle.derivation.specs.Derived.{Derived, StaysValid}
use Rattle.derivation.specs.Pieces.{AddsCuts}
use Rattle.derivation.specs.Ready.{IsReady}
use Rattle.conflict_cuts.specs.declared.learning.Learned.{Learned}
use Rattle.conflict_cuts.specs.declared.learning.Learned.TheVariants.{Clause, Root}

-- ---- what is learned

-- The row propagates the literal under the trail up to the level, which is below the engine's, and is open at no lower one. An engine
-- over the same variables takes it.
pub record Asserts (e : EngineState) (row : PlainRow) (level : ℕ) (asserts : Lit) : Type 0 where
  pub below : level < level_of e.trail
  pub propagates : PropagatesLit (set_at level e) row asserts
  pub lowest : (j : ℕ) → j < level → Keeps (set_at j e) row
  pub over : IsOver e.vars row
  pub short : IsShort row

-- the row is live under the number, was made in the call, and no other row that was made in it is live
pub record IsLeft (old new : Derived) (id : RowNo) (row : PlainRow) : Type 0 where
  pub later : old.state.next ≤ id.0
  pub live : row_of id.0 new.state.live ≡ Some row
  pub alone : (n : ℕ) → old.state.next ≤ n → IsTrue (is_numbered n new.state.live) → n ≡ id.0

-- the last of the clauses, which asserts the literal at the level
pub record LearnsClause (e : EngineState) (conflict : PlainRow) (old new : Derived) (id : RowNo) (row : PlainRow) (level : ℕ) (asserts : Lit) : Type 0 where
  pub left : IsLeft old new id row
  pub learned : Asserts e row level asserts
  pub last : row ≡ last_clause (history e) conflict

-- a row whose coefficients sum to less than its degree: it holds nowhere
pub record NamesContradiction (old new : Derived) (id : RowNo) : Type 0 where
  pub row : PlainRow
  pub left : IsLeft old new id row
  pub contradicts : coef_sum row.terms < row.degree

-- What is learned from the falsified row. At level 0 it is a contradiction, since no level is below.
abbrev pub Learns : EngineState → PlainRow → Derived → Derived → Learned → Type 0
Learns e conflict old new (Clause id row level asserts) = LearnsClause e conflict old new id row level asserts
Learns e conflict old new (Root id) = NamesContradiction old new id

-- ---- what is done

-- What an analysis does to a derivation, whatever it answers. It adds `pol` and `del` lines alone: they name held rows and rows made in the
-- call, only such are deleted, and at most 4n + 4 rows are made. All else stays: each row that was live, what is held, the least value
-- that is logged.
pub record Analyzes (old new : Derived) : Type 0 where
  pub lines : AddsCuts old new
  pub valid : StaysValid old new
  pub ready : IsReady new
  pub live : (n : ℕ) → n < old.state.next → row_of n new.state.live ≡ row_of n old.state.live
  pub held : new.held ≡ old.held
  pub lists : new.lists ≡ old.lists
  pub least : new.state.least ≡ old.state.least
