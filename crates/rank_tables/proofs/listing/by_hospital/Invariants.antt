use Rattle.std.proofs.Common.{◌≡◌, ℕ, length, map, take}
use Rattle.rank_tables.specs.Building.{row_at, marks_with}
use Rattle.rank_tables.proofs.listing.by_hospital.Given as goal

abbrev pub invariant-loop-i : goal.invariant-loop-i
invariant-loop-i l =
    (length l.rows.items ≡ l.hospitals)
    × ((h : ℕ) → row_at l.rows.items h ≡ marks_with (map (λ entry. entry.resident) l.entries) (take l.i (map (λ entry. entry.hospital) l.entries)) h)
