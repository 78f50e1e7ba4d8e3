use Rattle.std.proofs.Common.{◌<◌, ◌∙◌, length, arith, ap, sym, ℕ, Option}
use Rattle.std.specs.Prelude.{unwrap_or}
use Rattle.hrt_base.specs.World.{put}
use Rattle.hrt_host.specs.declared.file.File.{File}
use Rattle.hrt_host.specs.Memory.{memory_world, memory_plan, memory_left}
use Rattle.hrt_host.proofs.Below.{below_started}
use Rattle.hrt_host.proofs.Held.{write_started, left_put}
use Rattle.hrt_host.proofs.Slots.{writers_started}
use Rattle.hrt_host.proofs.Plans.{plan_after}
use Rattle.hrt_host.proofs.memory.MemoryHostHost.begin_write.Goals as goal

pub invariant_of-self-2-clause-below : goal.invariant_of-self-2-clause-below
unfolding memory_world memory_plan
invariant_of-self-2-clause-below c =
    below_started _ c.args.self.now.seats c.place.result c.enter.new.seat c.args.self.now.below c.enter.ensures.stand c.enter.ensures.sealed_at

pub invariant_of-self-2-clause-slots : goal.invariant_of-self-2-clause-slots
unfolding memory_world memory_plan
invariant_of-self-2-clause-slots c =
    let inside : c.place.result < length c.args.self.now.seats = omega arith in
    omega (arith, c.args.self.now.slots, c.in-Some.ensures.fewer, writers_started c.args.self.now.seats c.place.result c.index-self-place.result c.enter.new.seat inside)

pub returns-clause-started : goal.returns-clause-started
unfolding memory_world memory_plan
returns-clause-started c =
    let inside : c.place.result < length c.args.self.now.seats = omega arith in
    write_started c.args.self.now.files.items c.args.self.now.seats c.args.port c.place.result c.index-self-place.result c.enter.new.seat c.place.ensures.at inside
    _ _ c.in-Some.file c.args.name.now c.requires c.enter.ensures.stand c.enter.ensures.file c.enter.ensures.sealed_at (c.in-Some.ensures.name ∙ c.as_bytes.ensures.value) c.in-Some.ensures.empty

pub returns-clause-entered : goal.returns-clause-entered
unfolding memory_world memory_plan
returns-clause-entered c =
    let inside : c.place.result < length c.args.self.now.seats = omega arith in
    let rest = rw c.as_bytes.ensures.value at c.in-Some.ensures.rest in
    let first = rw c.as_bytes.ensures.value at c.in-Some.ensures.room in
    let left = left_put c.args.self.now.files.items c.args.self.now.seats c.args.port c.place.result c.index-self-place.result c.enter.new.seat c.place.ensures.at inside c.enter.ensures.stand in
    let room = ap (λ (f : File). f.room) c.enter.ensures.file ∙ sym (ap (λ (o : Option ℕ). unwrap_or o 0) first) in
    plan_after _ _ _ _ c.args.self.now.rooms.items _ c.args.self.now.seats _ _ _ c.fails.ensures.counted rest (left ∙ ap (λ (n : ℕ). put c.args.port n (memory_left c.args.self.now.seats)) room)
