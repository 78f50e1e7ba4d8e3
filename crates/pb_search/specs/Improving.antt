-- The logging of a candidate that no pair blocks.
use Rattle.std.specs.Prelude.{◌≡◌, ◌<◌, ℕ, List, ◌∷◌, [], ◌++◌, length, Some}
use Rattle.hrt_base.specs.declared.numbered.PairNo.{PairNo}
use Rattle.hrt_base.specs.declared.numbered.RowNo.{RowNo}
use Rattle.pb_rows.specs.Terms.{PlainRow}
use Rattle.pb_rows.specs.Formula.{row_of}
use Rattle.derivation.specs.Derived.{Derived, StaysValid}
use Rattle.pb_propagate.specs.Engines.{EngineState}
use Rattle.matching_log.specs.Logged.{Closes, Logs}
use Rattle.pb_search.specs.declared.moves.Move.{Move}
use Rattle.pb_search.specs.declared.moves.Move.TheVariants.{On, Best, Bounded}
use Rattle.pb_search.specs.Moves.{AddsRows}

-- the live row with this number was added, and the engine went back to the lowest level at which it is open
pub record AddsLive (id : RowNo) (d : Derived) (e new : EngineState) : Type 0 where
  pub row : PlainRow
  pub live : row_of id.0 d.state.live ≡ Some row
  pub vars : new.vars ≡ e.vars
  pub place : ℕ
  pub held : new.held ≡ e.held ++ record { place = place; row = row; tag = id.0 } ∷ []
  pub level : ℕ
  pub adds : AddsRows level e new

-- the matching was logged, which is shorter than the ceiling, and the row that asks for a larger one was added
pub record LogsShorter (ceiling : ℕ) (pairs : List PairNo) (e new : EngineState) (d made : Derived) : Type 0 where
  pub shorter : length pairs < ceiling
  pub larger : RowNo
  pub logs : Logs (length pairs) larger d made
  pub valid : StaysValid d made
  pub adds : AddsLive larger made e new

-- the matching was logged, which is as large as the ceiling, and the bound was closed
pub record LogsLargest (ceiling : ℕ) (bound : RowNo) (pairs : List PairNo) (d made : Derived) : Type 0 where
  pub met : length pairs ≡ ceiling
  pub larger : RowNo
  pub logged : Derived
  pub logs : Logs (length pairs) larger d logged
  pub logged_valid : StaysValid d logged
  pub last : RowNo
  pub closes : Closes (length pairs) bound larger last logged made
  pub closed_valid : StaysValid logged made

-- what logging it comes to, by the move that it makes
abbrev pub Improves : ℕ → RowNo → List PairNo → EngineState → EngineState → Derived → Derived → Move → Type 0
Improves ceiling bound pairs e new d made On = LogsShorter ceiling pairs e new d made
Improves ceiling bound pairs e new d made Best = LogsLargest ceiling bound pairs d made
Improves ceiling bound pairs e new d made Bounded = ⊥
