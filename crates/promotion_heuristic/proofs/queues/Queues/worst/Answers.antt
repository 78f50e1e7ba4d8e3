use Rattle.std.proofs.Common.{◌≡◌, ◌<◌, [], length, MatchOption, subst, sym, ap, ◌∙◌, arith}
use Rattle.std.specs.Option.{option_copied}
use Rattle.std.proofs.lemmas.List.{length-map}
use Rattle.promotion_heuristic.specs.Heaps.{items_of}
use Rattle.promotion_heuristic.specs.Queues.{row, IsFirst}
use Rattle.promotion_heuristic.proofs.HeapRows.{peeked, row-at, ordered-at}
use Rattle.promotion_heuristic.proofs.queues.Queues.worst.Goals as goal

pub returns : goal.returns
returns c =
    let heaps = c.self.inside.rows.items in
    let declared : c.args.h < length heaps = omega (arith, length-map heaps items_of, ap length c.self.view_is) in
    let here : items_of c.index.result.now ≡ row c.args.self.now c.args.h =
    ap items_of c.index.ensures ∙ sym (row-at heaps c.args.h c.index.result.now declared) ∙ ap (λ rows. row rows c.args.h) c.self.view_is in
    subst (λ r. MatchOption r (row c.args.self.now c.args.h ≡ []) (IsFirst (row c.args.self.now c.args.h))) (sym c.copied.ensures)
    (subst (λ items. MatchOption (option_copied c.peek.result) (items ≡ []) (IsFirst items)) here
    (peeked (items_of c.index.result.now) c.peek.result c.peek.ensures.item c.peek.ensures.lookup c.peek.ensures.greatest
    (ordered-at heaps c.args.h c.index.result.now declared c.index.ensures c.self.invariant)))
