use Rattle.std.proofs.Common.{◌≡◌, ℕ, [], length}
use Rattle.rank_tables.specs.Building.{row_at}
use Rattle.instance_gen.proofs.choosers.empty_rows.Given as goal

abbrev pub invariant-loop-i : goal.invariant-loop-i
invariant-loop-i l = (length l.rows.items ≡ l._i) × ((r : ℕ) → row_at l.rows.items r ≡ [])
