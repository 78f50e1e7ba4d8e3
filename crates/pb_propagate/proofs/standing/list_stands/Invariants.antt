use Rattle.std.proofs.Common.{◌≤◌, length, take, vec_capacity}
use Rattle.row_arena.specs.Held.{row_at}
use Rattle.level_sweep.specs.Rows.{StandFor}
use Rattle.pb_propagate.specs.Entries.{set_of, up_to}
use Rattle.pb_propagate.proofs.standing.list_stands.Given as goal

abbrev pub invariant-loop-k : goal.invariant-loop-k
invariant-loop-k l =
    (length (row_at l.place.0 l.arena.held).terms ≤ vec_capacity l.stands)
    × (length l.stands.items ≤ l.k)
    × StandFor (λ k. set_of (up_to k l.trail.entries)) (take l.k (row_at l.place.0 l.arena.held).terms) l.stands.items
