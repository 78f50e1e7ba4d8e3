use Rattle.std.proofs.Common.{◌≡◌, ◌+◌, ◌++◌, drop}
use Rattle.rank_tables.specs.Building.{with_ranks}
use Rattle.rank_tables.proofs.Ranks.{marks_from}
use Rattle.rank_tables.proofs.marks.ranked.Given as goal

abbrev pub invariant-loop-k : goal.invariant-loop-k
invariant-loop-k l = l.list.items ++ marks_from (l.k + 1) (drop l.k l.groups) ≡ with_ranks l.groups
