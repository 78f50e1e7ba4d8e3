use Rattle.std.proofs.Common.{◌∙◌, ◌<◌, length, map, sym, ap, rules, List}
use Rattle.hrt_host.specs.Rooms.{room_for}
use Rattle.hrt_host.specs.declared.rooms.Room.{Room}
use Rattle.hrt_host.proofs.Rooming.{first_next, others_next, first_here, others_here}
use Rattle.hrt_host.proofs.rooms.take_room.Goals as goal

pub loop-k-preserved : goal.loop-k-preserved
loop-k-preserved c =
    let inside : c.loop-k.k < length c.loop-k.rooms.items = search rules in
    let miss = sym c.suits.ensures ∙ c.if-suits.false in
    record {
      same = c.loop-k.invariant.same;
      first = c.loop-k.invariant.first ∙ first_next _ _ _ _ _ inside c.index.ensures miss;
      others = c.loop-k.invariant.others ∙ others_next _ _ _ _ _ inside c.index.ensures miss;
    }

pub returns-then-suits-clause-room : goal.returns-then-suits-clause-room
returns-then-suits-clause-room c =
    let inside : c.loop-k.k < length c.loop-k.rooms.items = search rules in
    c.loop-k.invariant.first ∙ first_here _ _ _ _ _ _ inside c.index.ensures c.remove.ensures.value (sym c.suits.ensures ∙ c.if-suits.true)

pub returns-then-suits-clause-rest : goal.returns-then-suits-clause-rest
returns-then-suits-clause-rest c =
    let inside : c.loop-k.k < length c.loop-k.rooms.items = search rules in
    ap (λ (l : List Room). map room_for l) c.remove.ensures.by_index.2
    ∙ sym (c.loop-k.invariant.others ∙ others_here _ _ _ _ _ inside c.index.ensures (sym c.suits.ensures ∙ c.if-suits.true))
