use Rattle.std.proofs.Common.{◌≡◌, ◌++◌, map, take}
use Rattle.rank_tables.specs.Building.{mark_of}
use Rattle.rank_tables.proofs.marks.add_group.Given as goal

abbrev pub invariant-loop-x : goal.invariant-loop-x
invariant-loop-x l = l.list.items ≡ l.initial.list.items ++ map (λ x. mark_of x l.rank) (take l.x-index l.group)
