use Rattle.std.proofs.Common.{◌≡◌, ℕ, ◌<◌, get_or, length}
use Rattle.lazy_stability.proofs.table.clear_ranks.Given as goal

abbrev pub invariant-loop-k : goal.invariant-loop-k
invariant-loop-k l = record {
  none : (i : ℕ) → i < l.k → get_or l.ranks.items i 0 ≡ 0;
  size : length l.ranks.items ≡ length l.fn.ranks.items;
}
