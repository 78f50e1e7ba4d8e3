use Rattle.std.proofs.Common.{◌<◌, ◌∙◌, sym, length, arith}
use Rattle.hrt_host.specs.Memory.{memory_world, memory_plan}
use Rattle.hrt_host.proofs.Held.{sent_at}
use Rattle.hrt_host.proofs.memory.MemoryHost.sent.Goals as goal

pub returns : goal.returns
unfolding memory_world memory_plan
returns c =
    let inside : c.place.result < length c.args.self.now.seats = omega arith in
    let there = sent_at c.args.self.now.files.items c.args.self.now.seats c.args.port c.place.result c.index-self-place.result c.place.ensures.at inside in
    (rw c.deref.ensures.value at c.sent.ensures) ∙ sym there
