use Rattle.std.proofs.Common.{◌≡◌, false, take}
use Rattle.std.specs.List.{list_any}
use Rattle.pb_propagate.specs.Entries.{is_row}
use Rattle.pb_propagate.specs.Tables.{mark_of, number_of}
use Rattle.pb_propagate.proofs.trail.any_marked.Given as goal

abbrev pub invariant-loop-lit : goal.invariant-loop-lit
invariant-loop-lit l = list_any (λ x. is_row l.place.0 (number_of (mark_of l.marks x).reason)) (take l.lit-index l.literals) ≡ false
