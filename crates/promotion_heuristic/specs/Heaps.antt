-- The order by which a row of tenants is kept.
use Rattle.std.specs.Prelude.{List}
use Rattle.std.specs.Ordering.{nat_cmp, bool_cmp, on, then_cmp}
use Rattle.std.specs.declared.cmp.Ordering.{Ordering}
use Rattle.std.specs.BinaryHeap.{heap_items, IsHeap}
use Rattle.std.specs.declared.collections.BinaryHeap.{BinaryHeap}
use Rattle.std.specs.Global.{Global}
use Rattle.promotion_heuristic.specs.declared.tenant.Tenant.{Tenant}

-- the tenants in a heap
abbrev pub items_of : BinaryHeap Tenant Global → List Tenant
items_of row = heap_items row

-- by rank, then promoted ones before others, then by number
abbrev pub by_worth : Tenant → Tenant → Ordering
by_worth = then_cmp (on (λ (x : Tenant). x.rank) nat_cmp) (then_cmp (on (λ (x : Tenant). x.unpromoted) bool_cmp) (on (λ (x : Tenant). x.resident) nat_cmp))

-- the heap is in this order
abbrev pub IsOrdered : BinaryHeap Tenant Global → Type 0
IsOrdered row = IsHeap by_worth (heap_items row)
