use Rattle.std.proofs.Common.{◌<◌, length, map, set, subst, ap, arith}
use Rattle.promotion_heuristic.specs.Heaps.{items_of}
use Rattle.std.proofs.lemmas.List.{length-map}
use Rattle.promotion_heuristic.specs.Queues.{Adds}
use Rattle.promotion_heuristic.proofs.HeapRows.{pushed-adds}
use Rattle.promotion_heuristic.proofs.queues.Queues.push.Goals as goal

pub returns : goal.returns
returns c =
    let heaps = c.self.inside.rows.items in
    let declared : c.args.h < length heaps = omega (arith, length-map heaps items_of, ap length c.self.view_is) in
    subst (λ rows. Adds rows (map items_of (set heaps c.args.h c.push.new.self)) c.args.h c.args.tenant) c.self.view_is
    (pushed-adds heaps c.args.h c.index_mut.result.now c.push.new.self c.args.tenant declared c.index_mut.ensures.value c.in_ok-push.ensures.permutation)
