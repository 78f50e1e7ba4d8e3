use Rattle.std.proofs.Common.{◌≡◌, ℕ, length}
use Rattle.rank_tables.specs.Building.{row_at, namings_of}
use Rattle.rank_tables.proofs.pairing.namings.Given as goal

abbrev pub invariant-loop-h : goal.invariant-loop-h
invariant-loop-h l = (length l.rows.items ≡ l.residents) × ((r : ℕ) → row_at l.rows.items r ≡ namings_of l.hospitals l.h r)
