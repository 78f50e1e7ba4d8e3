use Rattle.std.proofs.Common.{◌≡◌, [], length, All}
use Rattle.promotion_heuristic.specs.Heaps.{items_of, IsOrdered}
use Rattle.promotion_heuristic.proofs.queues.Queues.new.Given as goal

abbrev pub invariant-loop-h : goal.invariant-loop-h
invariant-loop-h l = record {
  count : length l.rows.items ≡ l._h;
  ordered : All IsOrdered l.rows.items;
  empty : All (λ row. items_of row ≡ []) l.rows.items;
}
