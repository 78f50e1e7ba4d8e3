-- What is so of a search before it propagates, at a conflict and where nothing is due.
use Rattle.std.specs.Prelude.{◌≤◌, ℕ, List}
use Rattle.derivation.specs.Derived.{Derived}
use Rattle.derivation.specs.Ready.{IsReady}
use Rattle.pb_propagate.specs.Engines.{AreKeptBelow, EngineState, IsIdle}
use Rattle.agreement.specs.Agreement.{Agree}
use Rattle.search_measure.specs.Recorded.{HasLearned}
use Rattle.search_measure.specs.Trails.{IsExactBelow, TrailIsAhead, TrailIsLaterBelow, TrailIsLevel}

-- The derivation is ready for more lines, the engine holds its rows, and no more rows were learned than the budget allows.
pub record AreJoined (budget : ℕ) (e : EngineState) (d : Derived) : Type 0 where
  pub ready : IsReady d
  pub agree : Agree e d
  pub within : d.held.learn_notes ≤ budget

-- the rows that were learned since the first derivation are as they should be, and the trail stands so beside the sizes of the last one
pub record IsMeasured (Stands : List ℕ → Type 0) (first now : Derived) (restarts since : ℕ) : Type 0 where
  pub last : List ℕ
  pub learned : HasLearned first now restarts since last
  pub trail : Stands last

-- before propagation
pub record IsSearching (first : Derived) (budget restarts since : ℕ) (e : EngineState) (d : Derived) : Type 0 where
  pub joined : AreJoined budget e d
  pub kept : AreKeptBelow e
  pub measured : IsMeasured (TrailIsAhead e) first d restarts since

-- at a conflict
pub record MeetsConflict (first : Derived) (budget restarts since : ℕ) (e : EngineState) (d : Derived) : Type 0 where
  pub joined : AreJoined budget e d
  pub exact : IsExactBelow e
  pub measured : IsMeasured (TrailIsLaterBelow e) first d restarts since

-- where nothing is due
pub record IsCalm (first : Derived) (budget restarts since : ℕ) (e : EngineState) (d : Derived) : Type 0 where
  pub joined : AreJoined budget e d
  pub idle : IsIdle e
  pub measured : IsMeasured (TrailIsLevel e) first d restarts since
