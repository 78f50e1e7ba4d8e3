-- Where an engine's trail stands beside the sizes of the last learned row.
use Rattle.std.specs.Prelude.{ℕ, ◌<◌, List, length, Contains}
use Rattle.row_arena.specs.Held.{Held}
use Rattle.pb_propagate.specs.Entries.{level_of, set_of}
use Rattle.pb_propagate.specs.Engines.{EngineState}
use Rattle.pb_propagate.specs.Open.{IsOpen}
use Rattle.pb_propagate.specs.Tables.{starts_from}
use Rattle.conflict_cuts.specs.Exact.{IsExactAt}
use Rattle.search_measure.specs.Ahead.{IsAhead, IsLaterBelow, IsLevel}

-- a held row is open under the whole trail
pub record SomeOpen (e : EngineState) : Type 0 where
  pub which : Held
  pub held : Contains e.held which
  pub is : IsOpen (set_of e.trail) which.row

-- the trail up to each level below the engine's is the closure of the decisions
abbrev pub IsExactBelow : EngineState → Type 0
IsExactBelow e = (k : ℕ) → k < level_of e.trail → IsExactAt k e

-- before propagation
abbrev pub TrailIsAhead : EngineState → List ℕ → Type 0
TrailIsAhead e last = IsAhead (starts_from 0 e.trail) (length e.trail) (SomeOpen e) last

-- where nothing is due
abbrev pub TrailIsLevel : EngineState → List ℕ → Type 0
TrailIsLevel e last = IsLevel (starts_from 0 e.trail) (length e.trail) last

-- at a conflict
abbrev pub TrailIsLaterBelow : EngineState → List ℕ → Type 0
TrailIsLaterBelow e last = IsLaterBelow (starts_from 0 e.trail) last
