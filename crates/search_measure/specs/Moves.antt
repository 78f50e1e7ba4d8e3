-- What the moves of a search do to where its trail stands.
use Rattle.std.specs.Prelude.{◌≡◌, ℕ, ◌<◌, List, [], ◌∷◌, ◌++◌, None}
use Rattle.hrt_base.specs.declared.literal.Lit.{Lit}
use Rattle.pb_propagate.specs.Entries.{level_of, up_to}
use Rattle.pb_propagate.specs.Engines.{EngineState, IsIdle}
use Rattle.pb_propagate.specs.Moments.{IsInOrder}
use Rattle.pb_propagate.specs.Tables.{starts_from}
use Rattle.conflict_cuts.specs.Exact.{IsExactAt, ReachesConflict, ReachesQuiet}
use Rattle.search_measure.specs.Ahead.{sizes_at}
use Rattle.search_measure.specs.Trails.{SomeOpen, TrailIsAhead, TrailIsLaterBelow, TrailIsLevel}

-- where no row was learned since the last restart, each trail is ahead
abbrev pub StartsAhead : Type 0
StartsAhead = (e : EngineState) → TrailIsAhead e []

-- so it is after a restart, where nothing is due
abbrev pub RestartsLevel : Type 0
RestartsLevel = (e : EngineState) → TrailIsLevel e []

-- propagation ends at a conflict
abbrev pub ConflictKeepsLater : Type 0
ConflictKeepsLater = (e new : EngineState) (place : ℕ) (last : List ℕ) → TrailIsAhead e last → ReachesConflict e new place → TrailIsLaterBelow new last

-- or where nothing is due
abbrev pub QuietIsLevel : Type 0
QuietIsLevel = (e new : EngineState) (last : List ℕ) → TrailIsAhead e last → ReachesQuiet e new → TrailIsLevel new last

-- a literal is decided
abbrev pub DecisionIsAhead : Type 0
DecisionIsAhead = (e new : EngineState) (l : Lit) (last : List ℕ) → TrailIsLevel e last → new.trail ≡ e.trail ++ record { lit = l; reason = None } ∷ [] → TrailIsAhead new last

-- a row is learned at a level, and the trail goes back to it, where the row is open
abbrev pub LearnedIsAhead : Type 0
LearnedIsAhead = (e new : EngineState) (level : ℕ) → level < level_of e.trail → new.trail ≡ up_to level e.trail → SomeOpen new → TrailIsAhead new (sizes_at (starts_from 0 e.trail) level)

-- rows are added where nothing is due, and the trail stays or goes back to a level at which one of them is open
abbrev pub AddedIsAhead : Type 0
AddedIsAhead = (e new : EngineState) (level : ℕ) (last : List ℕ) → TrailIsLevel e last → new.trail ≡ up_to level e.trail → SomeOpen new → TrailIsAhead new last

-- an engine where nothing is due is exact at each level
abbrev pub IdleIsExact : Type 0
IdleIsExact = (e : EngineState) → IsInOrder e → IsIdle e → (k : ℕ) → IsExactAt k e
