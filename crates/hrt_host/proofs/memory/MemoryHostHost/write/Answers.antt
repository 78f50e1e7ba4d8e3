use Rattle.std.proofs.Common.{◌<◌, ◌≡◌, ◌-◌, ◌∙◌, ℕ, min, length, ap, sym, arith, refl}
use Rattle.std.proofs.lemmas.List.{length-take}
use Rattle.hrt_base.specs.World.{put}
use Rattle.hrt_host.specs.Memory.{memory_world, memory_plan, memory_left}
use Rattle.hrt_host.proofs.Below.{not_sealed, stands_written, below_same}
use Rattle.hrt_host.proofs.Held.{write_sent, left_was, left_put}
use Rattle.hrt_host.proofs.Slots.{writers_same}
use Rattle.hrt_host.proofs.Plans.{plan_after, no_room, some_room}
use Rattle.hrt_host.proofs.memory.MemoryHostHost.write.Goals as goal

pub returns-then-self-at-eq0-clause-fails : goal.returns-then-self-at-eq0-clause-fails
unfolding memory_world memory_plan
returns-then-self-at-eq0-clause-fails c =
    let inside : c.place-at.result < length c.args.self.now.seats = omega arith in
    let r = c.index-self-at.result in
    no_room _ _ _ (left_was c.args.self.now.files.items c.args.self.now.seats c.args.port c.place-at.result r r c.place-at.ensures.at inside c.requires.begun) c.if-self-at-eq0.true

pub invariant_of-self-2-clause-below : goal.invariant_of-self-2-clause-below
unfolding memory_world memory_plan
invariant_of-self-2-clause-below c =
    let inside : c.place-at.result < length c.args.self.now.seats = omega arith in
    below_same _ c.args.self.now.seats c.place-at.result c.index-self-at-2.result c.append.new.seat c.args.self.now.below inside c.append.ensures.grown.stand c.append.ensures.grown.sealed_at

pub invariant_of-self-2-clause-slots : goal.invariant_of-self-2-clause-slots
unfolding memory_world memory_plan
invariant_of-self-2-clause-slots c =
    let inside : c.place-at.result < length c.args.self.now.seats = omega arith in
    omega (arith, c.args.self.now.slots, writers_same c.args.self.now.seats c.place-at.result c.index-self-at-2.result c.append.new.seat inside c.append.ensures.grown.stand c.append.ensures.grown.name)

pub returns-clause-sent : goal.returns-clause-sent
unfolding memory_world memory_plan
returns-clause-sent c =
    let inside : c.place-at.result < length c.args.self.now.seats = omega arith in
    let here = not_sealed _ c.args.self.now.seats c.args.port c.place-at.result c.index-self-at-2.result c.place-at.ensures.at inside c.args.self.now.below c.requires.begun in
    write_sent c.args.self.now.files.items c.args.self.now.seats c.args.port c.place-at.result c.index-self-at-2.result c.append.new.seat c.place-at.ensures.at inside
    _ _ _ c.append.ensures.grown here

pub returns-clause-moves : goal.returns-clause-moves
unfolding memory_world memory_plan
returns-clause-moves c =
    let inside : c.place-at.result < length c.args.self.now.seats = omega arith in
    let r = c.index-self-at-2.result in
    let left = left_was c.args.self.now.files.items c.args.self.now.seats c.args.port c.place-at.result r r c.place-at.ensures.at inside c.requires.begun in
    c.append.ensures.count ∙ ap (λ (n : ℕ). min (min (length c.args.bytes.now) n) c.args.self.now.most) (sym left)

pub returns-clause-fails : goal.returns-clause-fails
unfolding memory_world memory_plan
returns-clause-fails c =
    let inside : c.place-at.result < length c.args.self.now.seats = omega arith in
    let r = c.index-self-at.result in
    let told = sym (rw c.deref.ensures.value at c.fails.ensures.value) ∙ c.if-fails.false in
    some_room _ _ _ told (left_was c.args.self.now.files.items c.args.self.now.seats c.args.port c.place-at.result r r c.place-at.ensures.at inside c.requires.begun) c.if-self-at-eq0.false

pub returns-clause-left : goal.returns-clause-left
unfolding memory_world memory_plan
returns-clause-left c =
    let inside : c.place-at.result < length c.args.self.now.seats = omega arith in
    let r = c.index-self-at-2.result in
    let at = c.place-at.ensures.at in
    let grown = c.append.ensures.grown in
    let stand = grown.stand ∙ stands_written c.args.self.now.seats c.args.port c.place-at.result r at inside c.requires.begun in
    let was = left_was c.args.self.now.files.items c.args.self.now.seats c.args.port c.place-at.result r r at inside c.requires.begun in
    let left = left_put c.args.self.now.files.items c.args.self.now.seats c.args.port c.place-at.result r c.append.new.seat at inside stand in
    let room : c.append.new.seat.file.room ≡ memory_left c.args.self.now.seats c.args.port - c.append.result = omega (arith, was, grown.room, c.append.ensures.count, length-take {A = ℕ}) in
    plan_after _ _ _ _ c.args.self.now.rooms.items _ c.args.self.now.seats _ _ _ c.fails.ensures.counted refl (left ∙ ap (λ (n : ℕ). put c.args.port n (memory_left c.args.self.now.seats)) room)
