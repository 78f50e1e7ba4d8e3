use Rattle.std.proofs.Common.{ℕ, ◌<◌}
use Rattle.rup_engine.specs.Queue.{IsStrongPlace, place_at}
use Rattle.rup_engine.proofs.stronger.any_waiting_as_strong.Given as goal

abbrev pub invariant-loop-place : goal.invariant-loop-place
invariant-loop-place l = (j : ℕ) → j < l.place-index → IsStrongPlace l.row (place_at l.places j) → ⊥
