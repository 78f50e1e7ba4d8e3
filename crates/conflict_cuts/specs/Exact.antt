-- Exact propagation: what follows from the held rows and the decisions stands on the trail, and nothing else.
use Rattle.std.specs.Prelude.{◌≡◌, ◌<◌, ℕ, IsTrue, IsFalse, List, ◌++◌}
use Rattle.std.specs.List.{All}
use Rattle.pb_rows.specs.Closure.{Falsified, IsClosure, Refuted, among}
use Rattle.row_arena.specs.Held.{held_rows, is_held, row_at}
use Rattle.pb_propagate.specs.Entries.{Entry, decisions_of, is_decision, level_of, set_of}
use Rattle.pb_propagate.specs.Engines.{EngineState, IsIdle, decisions_at, set_at}
use Rattle.conflict_cuts.specs.declared.visiting.Outcome.{Outcome}
use Rattle.conflict_cuts.specs.declared.visiting.Outcome.TheVariants.{Conflict, Quiet}

-- the trail up to a level is the closure of the decisions up to it under the held rows
abbrev pub IsExactAt : ℕ → EngineState → Type 0
IsExactAt k e = IsClosure (held_rows e.held) (among (decisions_at k e)) (set_at k e)

-- the held rows and the decisions are refuted
abbrev pub IsRefuted : EngineState → Type 0
IsRefuted e = Refuted (held_rows e.held) (among (decisions_of e.trail))

-- propagated literals came to the end of the trail; the held rows and the variables stay
pub record IsPropagated (old new : EngineState) : Type 0 where
  pub vars : new.vars ≡ old.vars
  pub held : new.held ≡ old.held
  pub added : List Entry
  pub trail : new.trail ≡ old.trail ++ added
  pub reasons : All (λ entry. IsFalse (is_decision entry)) added

-- nothing is due any more, and the trail up to each level is the closure
pub record ReachesQuiet (old new : EngineState) : Type 0 where
  pub propagated : IsPropagated old new
  pub idle : IsIdle new
  pub exact : (k : ℕ) → IsExactAt k new

-- the row at the place is falsified, the held rows and the decisions are refuted, and the trail up to each level below the engine's is
-- the closure
pub record ReachesConflict (old new : EngineState) (place : ℕ) : Type 0 where
  pub propagated : IsPropagated old new
  pub stands : IsTrue (is_held place new.held)
  pub falsified : Falsified (set_of new.trail) (row_at place new.held)
  pub refuted : IsRefuted new
  pub exact : (k : ℕ) → k < level_of new.trail → IsExactAt k new

-- what propagation comes to, by its answer
abbrev pub ComesTo : EngineState → EngineState → Outcome → Type 0
ComesTo old new Quiet = ReachesQuiet old new
ComesTo old new (Conflict place) = ReachesConflict old new place.0

-- the answer is a conflict
abbrev pub IsConflict : Outcome → Type 0
IsConflict Quiet = ⊥
IsConflict (Conflict place) = Unit {0}
