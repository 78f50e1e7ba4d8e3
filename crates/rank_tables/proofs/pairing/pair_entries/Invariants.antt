use Rattle.std.proofs.Common.{◌≡◌, ◌≤◌, ℕ, length, slice_index}
use Rattle.std.specs.List.{flat_map}
use Rattle.rank_tables.specs.Numbers.{below}
use Rattle.rank_tables.specs.WellFormed.{most_pairs}
use Rattle.rank_tables.specs.Building.{row_at, answered, resident_groups}
use Rattle.rank_tables.proofs.pairing.pair_entries.Given as goal

abbrev pub invariant-loop-r : goal.invariant-loop-r
invariant-loop-r l =
    (length l.ranks.items ≡ l.hospitals) × ((i : ℕ) → slice_index l.ranks.items i ≡ 0) × (length l.entries.items ≤ most_pairs)
    × (l.entries.items ≡ flat_map (λ r. answered r (resident_groups l.residents r) (row_at l.named_by r)) (below l.r))
