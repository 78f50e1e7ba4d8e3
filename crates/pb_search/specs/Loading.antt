-- The loading of rows of pairs that block the candidate.
use Rattle.std.specs.Prelude.{ℕ, List}
use Rattle.hrt_base.specs.declared.numbered.PairNo.{PairNo}
use Rattle.derivation.specs.Derived.{Derived, StaysValid}
use Rattle.derivation.specs.Pieces.{TakesNote}
use Rattle.derivation.specs.Ready.{IsReady}
use Rattle.pb_propagate.specs.Engines.{EngineState}
use Rattle.agreement.specs.Agreement.{Agree}
use Rattle.lazy_stability.specs.Candidates.{candidate}
use Rattle.lazy_stability.specs.Loads.{AreNotHeld, load_note}
use Rattle.pb_search.specs.Moves.{AddsRows}

-- The rows of these pairs weren't held and were loaded with one note, and the engine went back to where one of them is open. Engine and
-- derivation agree again.
pub record LoadsBroken (pairs : List PairNo) (e new : EngineState) (d made : Derived) : Type 0 where
  pub note : TakesNote (load_note d.lists (candidate d.lists e) pairs) d made
  pub fresh : AreNotHeld d.lists d.held pairs
  pub agree : Agree new made
  pub ready : IsReady made
  pub valid : StaysValid d made
  pub level : ℕ
  pub adds : AddsRows level e new
