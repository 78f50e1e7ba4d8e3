use Rattle.std.proofs.Common.{◌≡◌, ℕ, ◌++◌, length, take}
use Rattle.rank_tables.specs.Building.{row_at, naming}
use Rattle.rank_tables.proofs.pairing.add_namings.Given as goal

abbrev pub invariant-loop-m : goal.invariant-loop-m
invariant-loop-m l =
    (length l.rows.items ≡ length l.initial.rows.items) × ((r : ℕ) → row_at l.rows.items r ≡ row_at l.initial.rows.items r ++ naming l.hospital r (take l.m-index l.list))
