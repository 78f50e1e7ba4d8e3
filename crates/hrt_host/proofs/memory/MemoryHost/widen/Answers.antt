use Rattle.std.proofs.Common.{◌<◌, ◌+◌, ◌∙◌, ℕ, length, arith, ap, sym}
use Rattle.hrt_base.specs.World.{put}
use Rattle.hrt_host.specs.Memory.{memory_world, memory_plan, memory_left}
use Rattle.hrt_host.proofs.Below.{below_same, stands_written}
use Rattle.hrt_host.proofs.Held.{roomier_world, roomier_left, left_was, left_put}
use Rattle.hrt_host.proofs.Slots.{writers_same}
use Rattle.hrt_host.proofs.Plans.{plan_left, on_err_of}
use Rattle.hrt_host.proofs.memory.MemoryHost.widen.Goals as goal

pub invariant_of-self-clause-below : goal.invariant_of-self-clause-below
unfolding memory_world memory_plan
invariant_of-self-clause-below c =
    let inside : c.place.result < length c.args.self.now.seats = omega arith in
    below_same _ c.args.self.now.seats c.place.result c.index-self-place.result c.widen.new.seat c.args.self.now.below inside c.widen.ensures.stand c.widen.ensures.sealed_at

pub invariant_of-self-clause-slots : goal.invariant_of-self-clause-slots
unfolding memory_world memory_plan
invariant_of-self-clause-slots c =
    let inside : c.place.result < length c.args.self.now.seats = omega arith in
    omega (arith, c.args.self.now.slots, writers_same c.args.self.now.seats c.place.result c.index-self-place.result c.widen.new.seat inside c.widen.ensures.stand c.widen.ensures.name)

pub returns-in_err-widen-clause-world : goal.returns-in_err-widen-clause-world
unfolding memory_world memory_plan
returns-in_err-widen-clause-world c =
    let inside : c.place.result < length c.args.self.now.seats = omega arith in
    roomier_world c.args.self.now.files.items c.args.self.now.seats c.args.port c.place.result c.index-self-place.result c.widen.new.seat c.place.ensures.at inside _ _ _ c.widen.ensures

pub returns-clause-world : goal.returns-clause-world
unfolding memory_world memory_plan
returns-clause-world c =
    let inside : c.place.result < length c.args.self.now.seats = omega arith in
    roomier_world c.args.self.now.files.items c.args.self.now.seats c.args.port c.place.result c.index-self-place.result c.widen.new.seat c.place.ensures.at inside _ _ _ c.widen.ensures

pub returns-in_err-widen-clause-err : goal.returns-in_err-widen-clause-err
unfolding memory_world memory_plan
returns-in_err-widen-clause-err c =
    let inside : c.place.result < length c.args.self.now.seats = omega arith in
    let left = roomier_left c.args.self.now.files.items c.args.self.now.seats c.args.port c.place.result c.index-self-place.result c.widen.new.seat c.place.ensures.at inside c.in_err-widen.ensures in
    on_err_of c.from_residual.result (plan_left _ _ _ c.args.self.now.rooms.items c.args.self.now.seats _ _ left)

pub returns-clause-ok : goal.returns-clause-ok
unfolding memory_world memory_plan
returns-clause-ok c =
    let inside : c.place.result < length c.args.self.now.seats = omega arith in
    let r = c.index-self-place.result in
    let at = c.place.ensures.at in
    let stand = c.widen.ensures.stand ∙ stands_written c.args.self.now.seats c.args.port c.place.result r at inside c.requires in
    let was = left_was c.args.self.now.files.items c.args.self.now.seats c.args.port c.place.result r r at inside c.requires in
    let left = left_put c.args.self.now.files.items c.args.self.now.seats c.args.port c.place.result r c.widen.new.seat at inside stand in
    let room = (rw c.in_ok-widen.was at c.widen.ensures.room) ∙ ap (λ (n : ℕ). n + c.args.more) (sym was) in
    plan_left _ _ _ c.args.self.now.rooms.items c.args.self.now.seats _ _ (left ∙ ap (λ (n : ℕ). put c.args.port n (memory_left c.args.self.now.seats)) room)
