use Rattle.std.proofs.Common.{◌≡◌, ◌<◌, [], length, map, set, MatchOption, subst, ap, arith}
use Rattle.std.proofs.lemmas.List.{length-map}
use Rattle.promotion_heuristic.specs.Heaps.{items_of}
use Rattle.promotion_heuristic.specs.Queues.{row, IsFirst, Adds}
use Rattle.promotion_heuristic.proofs.HeapRows.{popped, popped-ordered}
use Rattle.promotion_heuristic.proofs.queues.Queues.pop.Goals as goal

pub invariant_of-self : goal.invariant_of-self
invariant_of-self c =
    let heaps = c.self.inside.rows.items in
    let declared : c.args.h < length heaps = omega (arith, length-map heaps items_of, ap length c.self.view_is) in
    popped-ordered heaps c.args.h c.index_mut.result.now c.pop.new.self c.pop.result declared c.index_mut.ensures.value c.self.invariant
    c.pop.ensures.heap_order c.pop.ensures.unchanged

pub returns : goal.returns
returns c =
    let heaps = c.self.inside.rows.items in
    let declared : c.args.h < length heaps = omega (arith, length-map heaps items_of, ap length c.self.view_is) in
    subst (λ rows. MatchOption c.pop.result (row rows c.args.h ≡ []) (λ x. IsFirst (row rows c.args.h) x × Adds (map items_of (set heaps c.args.h c.pop.new.self)) rows c.args.h x))
    c.self.view_is
    (popped heaps c.args.h c.index_mut.result.now c.pop.new.self c.pop.result declared c.index_mut.ensures.value c.self.invariant
    c.pop.ensures.none c.pop.ensures.variant c.pop.ensures.top c.pop.ensures.permutation c.pop.ensures.heap_order)
