-- An engine goes back to where rows that were added to it are open.
use Rattle.std.specs.Prelude.{◌≡◌, ◌<◌, ◌≤◌, ◌⊎◌, ℕ, IsTrue, List, Contains}
use Rattle.std.specs.List.{All}
use Rattle.pb_rows.specs.Closure.{Falsified, Keeps}
use Rattle.row_arena.specs.Held.{is_held, row_at}
use Rattle.row_arena.specs.declared.arena.Place.{Place}
use Rattle.pb_propagate.specs.Entries.{level_of, set_of, up_to}
use Rattle.pb_propagate.specs.Engines.{EngineState, set_at}
use Rattle.pb_propagate.specs.Open.{IsOpen}

-- the row at this place is held, and falsified under the whole trail
pub record IsBroken (e : EngineState) (place : Place) : Type 0 where
  pub held : IsTrue (is_held place.0 e.held)
  pub falsified : Falsified (set_of e.trail) (row_at place.0 e.held)

-- the row at one of the places is open at the level
pub record IsOpenAt (places : List Place) (level : ℕ) (e : EngineState) : Type 0 where
  pub place : Place
  pub among : Contains places place
  pub is_open : IsOpen (set_at level e) (row_at place.0 e.held)

-- no row at these places is open below the level
abbrev pub AreKeptUnder : List Place → ℕ → EngineState → Type 0
AreKeptUnder places level e = (k : ℕ) → k < level → All (λ place. Keeps (set_at k e) (row_at place.0 e.held)) places

-- the level is the lowest one at which a row at these places is open; the engine's level, where none is
pub record IsLowest (places : List Place) (e : EngineState) (level : ℕ) : Type 0 where
  pub within : level ≤ level_of e.trail
  pub under : AreKeptUnder places level e
  pub reached : (level ≡ level_of e.trail) ⊎ IsOpenAt places level e

-- the engine went back to the lowest level at which a row at these places is open
pub record GoesBack (places : List Place) (e new : EngineState) : Type 0 where
  pub level : ℕ
  pub vars : new.vars ≡ e.vars
  pub held : new.held ≡ e.held
  pub trail : new.trail ≡ up_to level e.trail
  pub under : AreKeptUnder places level e
  pub at : IsOpenAt places level e
