use Rattle.std.proofs.Common.{nat_lt, ap₂, ◌∙◌}
use Rattle.promotion_heuristic.proofs.KeptWorst.{row-length}
use Rattle.promotion_heuristic.proofs.rounds.Rounds.has_room.Goals as goal

pub returns : goal.returns
returns c =
    ap₂ nat_lt (c.len.ensures ∙ row-length c.args.inst.now c.args.self.now.standings.items c.args.self.now.queues c.args.h c.requires.kept) c.capacity.ensures.value
