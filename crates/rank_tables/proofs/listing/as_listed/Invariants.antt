use Rattle.std.proofs.Common.{◌≡◌, ℕ, length, map, slice_index}
use Rattle.rank_tables.specs.Numbers.{below}
use Rattle.rank_tables.specs.Tables.{numbers_of}
use Rattle.rank_tables.specs.Building.{row_at, rows_of, numbered, hospital_groups}
use Rattle.rank_tables.proofs.listing.as_listed.Given as goal

abbrev pub invariant-loop-h : goal.invariant-loop-h
invariant-loop-h l =
    (length l.numbers.items ≡ l.residents) × ((i : ℕ) → slice_index l.numbers.items i ≡ 0)
    × (map numbers_of (rows_of l.rows.items) ≡ map (λ h. numbered (hospital_groups l.hospitals h) (row_at l.pairs h)) (below l.h))
