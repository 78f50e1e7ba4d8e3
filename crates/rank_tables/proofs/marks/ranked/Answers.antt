use Rattle.std.proofs.Common.{arith}
use Rattle.rank_tables.proofs.Ranks.{marks_from-all, group_added}
use Rattle.rank_tables.proofs.marks.ranked.Goals as goal

pub loop-k-init : goal.loop-k-init
loop-k-init c = rw c.new-list.ensures.items (marks_from-all c.args.groups.now c.requires.distinct)

pub loop-k-preserved : goal.loop-k-preserved
loop-k-preserved c =
    group_added c.loop-k.list.items c.add_group.new.list.items c.group.result.now c.args.groups.now c.loop-k.k (omega arith) c.group.ensures.value
    c.in_ok-add_group.ensures c.loop-k.invariant
