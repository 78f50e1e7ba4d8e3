use Rattle.std.proofs.Common.{◌<◌, ◌∙◌, min, List, ℕ, length, ap, sym, arith}
use Rattle.hrt_host.specs.Memory.{memory_world, memory_plan, memory_content}
use Rattle.hrt_host.proofs.Below.{below_reads}
use Rattle.hrt_host.proofs.Held.{read_taken, rest_was, read_left}
use Rattle.hrt_host.proofs.Slots.{writers_reading}
use Rattle.hrt_host.proofs.Plans.{plan_same, moved_none}
use Rattle.hrt_host.proofs.memory.MemoryHostHost.read.Goals as goal

pub invariant_of-self-2-clause-below : goal.invariant_of-self-2-clause-below
unfolding memory_world memory_plan
invariant_of-self-2-clause-below c =
    let inside : c.place.result < length c.args.self.now.seats = omega arith in
    below_reads _ c.args.self.now.seats c.args.port c.place.result c.index-self-place.result c.take.new.seat c.place.ensures.at inside c.args.self.now.below c.requires.begun c.take.ensures.same

pub invariant_of-self-2-clause-slots : goal.invariant_of-self-2-clause-slots
unfolding memory_world memory_plan
invariant_of-self-2-clause-slots c =
    let inside : c.place.result < length c.args.self.now.seats = omega arith in
    omega (arith, c.args.self.now.slots, writers_reading c.args.self.now.seats c.args.port c.place.result c.index-self-place.result c.take.new.seat c.place.ensures.at inside c.requires.begun c.take.ensures.same)

pub returns-clause-taken : goal.returns-clause-taken
unfolding memory_world memory_plan
returns-clause-taken c =
    let inside : c.place.result < length c.args.self.now.seats = omega arith in
    let front = rw c.deref-2.ensures.value at c.take.ensures.front in
    read_taken c.args.self.now.files.items c.args.self.now.seats c.args.port c.place.result c.index-self-place.result c.take.new.seat c.place.ensures.at inside
    c.args.self.now.read_faults c.args.self.now.write_faults _ c.take.ensures.same front

pub returns-clause-moves : goal.returns-clause-moves
unfolding memory_world memory_plan
returns-clause-moves c =
    let inside : c.place.result < length c.args.self.now.seats = omega arith in
    let left = rest_was c.args.self.now.files.items c.args.self.now.seats c.args.port c.place.result c.index-self-place.result c.take.new.seat c.place.ensures.at inside in
    (rw c.deref-2.ensures.value at c.take.ensures.count) ∙ ap (λ (l : List ℕ). min (min (length l) (length c.take.new.buffer)) c.args.self.now.most) (sym left)

pub returns-clause-end : goal.returns-clause-end
unfolding memory_world memory_plan
returns-clause-end c t =
    let some : 0 < length c.take.new.buffer = omega (arith, c.requires.room) in
    moved_none ((memory_content c.args.self.now.files.items c.args.self.now.seats).rest c.args.port) _ _ _ (returns-clause-moves c) some c.args.self.now.some

pub returns-clause-plan : goal.returns-clause-plan
unfolding memory_world memory_plan
returns-clause-plan c =
    let inside : c.place.result < length c.args.self.now.seats = omega arith in
    plan_same _ _ _ _ _ _ _ c.fails.ensures.counted
    (read_left c.args.self.now.files.items c.args.self.now.seats c.args.port c.place.result c.index-self-place.result c.take.new.seat c.place.ensures.at inside c.requires.begun c.take.ensures.same)
