use Rattle.std.proofs.Common.{◌≡◌, ◌∙◌, ◌+◌, ◌≤◌, ap₂, List, ℕ, length, arith, rules}
use Rattle.std.specs.Prelude.{vec_capacity}
use Rattle.std.proofs.lemmas.Result.{on_ok_weaker}
use Rattle.hrt_host.specs.Memory.{memory_world, memory_plan, memory_content, with_file}
use Rattle.hrt_host.proofs.Below.{all_pushed}
use Rattle.hrt_host.proofs.Pushed.{pushed_content}
use Rattle.hrt_host.proofs.Slots.{writers_most}
use Rattle.hrt_host.proofs.memory.MemoryHost.put_file.Goals as goal

pub invariant_of-self-2-clause-below : goal.invariant_of-self-2-clause-below
unfolding memory_world memory_plan
invariant_of-self-2-clause-below c =
    let more : length c.args.self.now.files.items ≤ length c.add-added.new.files.items = rw c.reserve.ensures.items at c.add-added.ensures.no_fewer in
    all_pushed _ _ c.args.self.now.seats c.args.self.now.below more

pub invariant_of-self-2-clause-slots : goal.invariant_of-self-2-clause-slots
unfolding memory_world memory_plan
invariant_of-self-2-clause-slots c =
    let room : length c.reserve.new.self.items + (length c.args.self.now.rooms.items + 8) ≤ vec_capacity c.reserve.new.self = search rules in
    omega (arith, room, c.add-added.ensures.one_more, c.add-added.ensures.capacity, writers_most c.args.self.now.seats)

pub returns-clause-file : goal.returns-clause-file
unfolding memory_world memory_plan
returns-clause-file c =
    let name : c.in_ok-file.file.name.items ≡ c.args.name.now = c.in_ok-file.ensures.name ∙ c.as_bytes.ensures.value in
    let bytes : c.in_ok-file.file.bytes.items ≡ c.args.bytes.now = c.in_ok-file.ensures.bytes in
    on_ok_weaker c.add-added.result
    (λ pushed. pushed_content _ _ c.args.self.now.seats _ c.args.self.now.below (rw c.reserve.ensures.items at pushed)
    ∙ ap₂ (λ (n b : List ℕ). with_file n b (memory_content c.args.self.now.files.items c.args.self.now.seats)) name bytes)
    c.add-added.ensures.added
