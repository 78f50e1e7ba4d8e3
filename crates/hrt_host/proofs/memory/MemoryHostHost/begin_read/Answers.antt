use Rattle.std.proofs.Common.{◌<◌, length, arith, ◌≡◌, Some}
use Rattle.hrt_host.specs.Memory.{memory_world, memory_plan}
use Rattle.hrt_host.specs.Seat.{file_of, bytes_at}
use Rattle.hrt_host.proofs.Below.{below_opened}
use Rattle.hrt_host.proofs.Held.{read_opened, left_idle}
use Rattle.hrt_host.proofs.Slots.{writers_opened}
use Rattle.hrt_host.proofs.Plans.{plan_same}
use Rattle.hrt_host.proofs.memory.MemoryHostHost.begin_read.Goals as goal

pub invariant_of-self-2-clause-below : goal.invariant_of-self-2-clause-below
unfolding memory_world memory_plan
invariant_of-self-2-clause-below c =
    let inside : c.place.result < length c.args.self.now.seats = omega arith in
    let there : c.in-Some.file < length c.args.self.now.files.items = rw c.deref-2.ensures.value at c.in-Some.ensures.0 in
    below_opened _ c.in-Some.file c.args.self.now.seats c.place.result c.index-self-place.result c.open.new.seat c.args.self.now.below inside c.open.ensures.stand c.open.ensures.sealed_at there

pub invariant_of-self-2-clause-slots : goal.invariant_of-self-2-clause-slots
unfolding memory_world memory_plan
invariant_of-self-2-clause-slots c =
    let inside : c.place.result < length c.args.self.now.seats = omega arith in
    omega (arith, c.args.self.now.slots, writers_opened c.args.self.now.seats c.args.port c.place.result c.in-Some.file c.index-self-place.result c.open.new.seat c.place.ensures.at inside c.requires c.open.ensures.stand)

pub returns-clause-opened : goal.returns-clause-opened
unfolding memory_world memory_plan
returns-clause-opened c =
    let inside : c.place.result < length c.args.self.now.seats = omega arith in
    let found : file_of c.args.self.now.files.items c.args.name.now ≡ Some (bytes_at c.args.self.now.files.items c.in-Some.file) = rw (c.deref-2.ensures.value, c.as_bytes.ensures.value) at c.in-Some.ensures.1 in
    read_opened c.args.self.now.files.items c.args.self.now.seats c.args.port c.place.result c.index-self-place.result c.open.new.seat c.place.ensures.at inside
    _ _ c.in-Some.file c.args.name.now c.requires c.open.ensures.stand c.open.ensures.file c.open.ensures.sealed_at found

pub returns-clause-plan : goal.returns-clause-plan
unfolding memory_world memory_plan
returns-clause-plan c =
    let inside : c.place.result < length c.args.self.now.seats = omega arith in
    plan_same _ _ _ _ _ _ _ c.fails.ensures.counted
    (left_idle c.args.self.now.files.items c.args.self.now.seats c.args.port c.place.result c.index-self-place.result c.open.new.seat c.place.ensures.at inside c.requires c.in-Some.file c.open.ensures.stand)
