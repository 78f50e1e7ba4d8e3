use Rattle.std.proofs.Common.{◌≡◌, ℕ, ◌<◌, get_or, length}
use Rattle.rank_tables.specs.Instance.{capacity_of}
use Rattle.lazy_stability.proofs.table.free_posts.Given as goal

abbrev pub invariant-loop-h : goal.invariant-loop-h
invariant-loop-h l = record {
  all : (i : ℕ) → i < l.h → get_or l.free.items i 0 ≡ capacity_of l.inst i;
  size : length l.free.items ≡ length l.fn.free.items;
}
