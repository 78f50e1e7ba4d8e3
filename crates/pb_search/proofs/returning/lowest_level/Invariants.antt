use Rattle.std.proofs.Common.{take}
use Rattle.pb_search.specs.Returning.{IsLowest}
use Rattle.pb_search.proofs.returning.lowest_level.Given as goal

abbrev pub invariant-loop-place : goal.invariant-loop-place
invariant-loop-place l = IsLowest (take l.place-index l.places) l.engine l.lowest
