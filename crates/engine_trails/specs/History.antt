-- An engine's trail as placed literals, newest first.
use Rattle.std.specs.Prelude.{◌+◌, ℕ, if◌then◌else◌, List, [], ◌∷◌, Option, Some, None, take}
use Rattle.pb_rows.specs.Terms.{PlainRow}
use Rattle.row_arena.specs.Held.{Held, row_at}
use Rattle.pb_propagate.specs.Entries.{Entry, is_decision}
use Rattle.pb_propagate.specs.Engines.{EngineState}
use Rattle.conflict_rows.specs.Trail.{Placed, top_level}

-- the row of a reason, if there is one
abbrev pub reason_row : List Held → Option ℕ → Option PlainRow
reason_row held None = None
reason_row held (Some place) = Some (row_at place held)

-- the entry behind others: a decision opens a level
abbrev pub placed : List Held → List Placed → Entry → Placed
placed held before e = record { lit = e.lit; level = top_level before + (if is_decision e then 1 else 0); reason = reason_row held e.reason }

-- entries that come behind others
abbrev pub placed_all : List Held → List Placed → List Entry → List Placed
placed_all held before [] = before
placed_all held before (e ∷ entries) = placed_all held (placed held before e ∷ before) entries

-- the whole trail
abbrev pub history : EngineState → List Placed
history e = placed_all e.held [] e.trail

-- the oldest so many entries of it
abbrev pub history_to : ℕ → EngineState → List Placed
history_to k e = placed_all e.held [] (take k e.trail)
