-- What holds of an engine at every moment.
use Rattle.std.specs.Prelude.{◌≤◌, IsTrue, IsFalse, [], length}
use Rattle.std.specs.List.{All}
use Rattle.pb_rows.specs.Terms.{opposite_lit}
use Rattle.hrt_base.specs.declared.literal.Lit.{Lit}
use Rattle.pb_rows.specs.Points.{IsCovered}
use Rattle.pb_rows.specs.Closure.{Keeps}
use Rattle.propagation.specs.Tables.{AreConsistent}
use Rattle.row_arena.specs.Held.{AreHeld, Held, is_held}
use Rattle.pb_propagate.specs.Entries.{IsNewlyFalse, lits_of, set_of}
use Rattle.pb_propagate.specs.Open.{AreJustified}
use Rattle.pb_propagate.specs.Engines.{EngineState, IsKeptBelow, is_due_literal, is_due_row, watches}

-- a row that isn't due is open at no level below the engine's
abbrev pub IsKeptOnceVisited : EngineState → Held → Type 0
IsKeptOnceVisited e h = IsFalse (is_due_row h.place e) → IsKeptBelow e h.row

-- a row that isn't due and watches no due literal isn't open at the engine's level
abbrev pub IsKeptUnlessWaiting : EngineState → Held → Type 0
IsKeptUnlessWaiting e h =
    IsFalse (is_due_row h.place e) → ((l : Lit) → IsTrue (is_due_literal l e) → IsFalse (watches e l h.place)) → Keeps (set_of e.trail) h.row

-- the facts of every moment that speak of rows
pub record IsSound (e : EngineState) : Type 0 where
  -- the held rows stand at places of their own, are over the variables, and are short
  pub held : AreHeld e.vars e.held
  -- each literal is a decision or is propagated by its reason under the literals before it, and each reason is held
  pub justified : AreJustified e.held [] e.trail
  -- the due rows are held, and the due literals are false
  pub due_held : All (λ p. IsTrue (is_held p e.held)) e.due_rows
  pub due_false : All (λ l. IsTrue (set_of e.trail (opposite_lit l))) e.due_literals
  -- which rows aren't open
  pub kept_below : All (IsKeptOnceVisited e) e.held
  pub kept : All (IsKeptUnlessWaiting e) e.held

-- the facts of every moment
pub record IsInOrder (e : EngineState) : Type 0 where
  pub sound : IsSound e
  -- the trail is over the variables, has no variable twice, and so no more literals than variables
  pub few : length e.trail ≤ e.vars
  pub covered : All (λ l. IsCovered e.vars l.var) (lits_of e.trail)
  pub consistent : AreConsistent (lits_of e.trail)
  -- the due literals became false at the engine's level
  pub due_new : All (IsNewlyFalse e.trail) e.due_literals
