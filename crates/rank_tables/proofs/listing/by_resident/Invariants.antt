use Rattle.std.proofs.Common.{◌≡◌, ℕ, length, map, take}
use Rattle.rank_tables.specs.Tables.{numbers_of}
use Rattle.rank_tables.specs.Building.{row_at, numbers_with}
use Rattle.rank_tables.proofs.listing.by_resident.Given as goal

abbrev pub invariant-loop-i : goal.invariant-loop-i
invariant-loop-i l =
    (length l.rows.items ≡ l.residents)
    × ((r : ℕ) → numbers_of (row_at l.rows.items r) ≡ numbers_with (take l.i (map (λ entry. entry.resident) l.entries)) r)
