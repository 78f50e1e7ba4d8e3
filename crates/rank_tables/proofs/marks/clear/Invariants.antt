use Rattle.std.proofs.Common.{◌≡◌, ℕ, slice_index, take}
use Rattle.rank_tables.specs.Building.{cleared}
use Rattle.rank_tables.proofs.marks.clear.Given as goal

abbrev pub invariant-loop-m : goal.invariant-loop-m
invariant-loop-m l = (i : ℕ) → slice_index l.table i ≡ cleared i (take l.m-index l.marks) (slice_index l.initial.table i)
