use Rattle.std.proofs.Common.{◌<◌, length, arith, refl}
use Rattle.std.specs.Prelude.{vec_capacity}
use Rattle.hrt_host.specs.Memory.{memory_world, memory_plan}
use Rattle.hrt_host.proofs.Held.{left_none}
use Rattle.hrt_host.proofs.Sealing.{write_sealed, below_sealed, slots_sealed}
use Rattle.hrt_host.proofs.Slots.{writer_counted}
use Rattle.hrt_host.proofs.Plans.{plan_after}
use Rattle.hrt_host.proofs.memory.MemoryHostHost.seal.Goals as goal

pub finish-requires : goal.finish-requires
unfolding memory_world memory_plan
finish-requires c =
    let inside : c.place.result < length c.args.self.now.seats = omega arith in
    record { kept = λ named. omega (arith, c.args.self.now.slots, writer_counted c.args.self.now.seats c.args.port c.place.result c.index-self-place.result c.place.ensures.at inside c.requires named) }

pub invariant_of-self-2-clause-below : goal.invariant_of-self-2-clause-below
unfolding memory_world memory_plan
invariant_of-self-2-clause-below c =
    let inside : c.place.result < length c.args.self.now.seats = omega arith in
    below_sealed c.args.self.now.files.items _ c.args.self.now.seats c.args.port c.place.result c.index-self-place.result c.finish.new.seat c.place.ensures.at inside c.args.self.now.below c.requires c.finish.ensures.finished

pub invariant_of-self-2-clause-slots : goal.invariant_of-self-2-clause-slots
unfolding memory_world memory_plan
invariant_of-self-2-clause-slots c =
    let inside : c.place.result < length c.args.self.now.seats = omega arith in
    slots_sealed c.args.self.now.files.items _ c.args.self.now.seats c.args.port c.place.result c.index-self-place.result c.finish.new.seat c.place.ensures.at inside c.args.self.now.below c.requires c.finish.ensures.finished
    (length c.args.self.now.rooms.items) (vec_capacity c.finish.new.files) (omega (arith, c.args.self.now.slots, c.finish.ensures.capacity))

pub returns-clause-sealed : goal.returns-clause-sealed
unfolding memory_world memory_plan
returns-clause-sealed c =
    let inside : c.place.result < length c.args.self.now.seats = omega arith in
    write_sealed c.args.self.now.files.items _ c.args.self.now.seats c.args.port c.place.result c.index-self-place.result c.finish.new.seat c.place.ensures.at inside c.args.self.now.below c.requires c.finish.ensures.finished _ _

pub returns-clause-left : goal.returns-clause-left
unfolding memory_world memory_plan
returns-clause-left c =
    let inside : c.place.result < length c.args.self.now.seats = omega arith in
    plan_after _ _ _ _ c.args.self.now.rooms.items _ c.args.self.now.seats _ _ _ c.fails.ensures.counted refl
    (left_none c.args.self.now.files.items c.args.self.now.seats c.args.port c.place.result c.index-self-place.result c.finish.new.seat c.place.ensures.at inside c.finish.ensures.finished.stand)
