use Rattle.std.proofs.Common.{◌<◌, ◌∙◌, length, arith}
use Rattle.hrt_host.specs.Memory.{memory_world, memory_plan}
use Rattle.hrt_host.proofs.Below.{written_as}
use Rattle.hrt_host.proofs.memory.MemoryHost.writes_as.Goals as goal

pub returns : goal.returns
unfolding memory_world memory_plan
returns c =
    let inside : c.place.result < length c.args.self.now.seats = omega arith in
    (rw c.as_bytes.ensures.value at c.is_written_as.ensures)
    ∙ written_as c.args.self.now.files.items c.args.self.now.seats c.args.port c.place.result c.index-self-place.result c.args.name.now c.place.ensures.at inside c.args.self.now.below
