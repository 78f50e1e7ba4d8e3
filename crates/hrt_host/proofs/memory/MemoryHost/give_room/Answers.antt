use Rattle.std.proofs.Common.{◌+◌, ◌≤◌, length, ap, ◌∙◌, List, arith, rules}
use Rattle.std.specs.Prelude.{vec_capacity}
use Rattle.hrt_host.specs.Memory.{memory_world, memory_plan}
use Rattle.hrt_host.specs.Seat.{all_below}
use Rattle.hrt_host.specs.declared.file.File.{File}
use Rattle.hrt_host.proofs.Slots.{writers_most}
use Rattle.hrt_host.proofs.memory.MemoryHost.give_room.Goals as goal

pub invariant_of-self-2-clause-below : goal.invariant_of-self-2-clause-below
unfolding memory_world memory_plan
invariant_of-self-2-clause-below c =
    ap (λ (l : List File). all_below (length l) c.args.self.now.seats) c.reserve.ensures.items ∙ c.args.self.now.below

pub invariant_of-self-2-clause-slots : goal.invariant_of-self-2-clause-slots
unfolding memory_world memory_plan
invariant_of-self-2-clause-slots c =
    let room : length c.reserve.new.self.items + (length c.args.self.now.rooms.items + 8) ≤ vec_capacity c.reserve.new.self = search rules in
    let more : length c.push.new.self.items ≤ length c.args.self.now.rooms.items + 1 = search rules in
    omega (arith, room, more, writers_most c.args.self.now.seats)
