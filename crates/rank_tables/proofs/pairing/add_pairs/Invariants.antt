use Rattle.std.proofs.Common.{◌≡◌, ◌≤◌, ◌++◌, length, take}
use Rattle.rank_tables.specs.WellFormed.{most_pairs}
use Rattle.rank_tables.specs.Building.{found}
use Rattle.rank_tables.proofs.pairing.add_pairs.Given as goal

abbrev pub invariant-loop-m : goal.invariant-loop-m
invariant-loop-m l =
    (length l.entries.items ≤ most_pairs) × (l.entries.items ≡ l.initial.entries.items ++ found l.resident (take l.m-index l.list) l.ranks)
