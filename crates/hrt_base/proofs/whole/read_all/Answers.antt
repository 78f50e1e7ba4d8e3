use Rattle.std.proofs.Common.{rules, ◌<◌, ◌≤◌, ◌-◌, length}
use Rattle.hrt_base.proofs.Pieces.{taken_parts, taken_past, taken_within}
use Rattle.hrt_base.proofs.whole.read_all.Goals as goal

pub returns-then-count-limit-clause-part : goal.returns-then-count-limit-clause-part
returns-then-count-limit-clause-part g c = taken_parts _ _ _ _ _ _ _ c.loop-bytes.invariant.taken c.in_ok-count.ensures.taken

pub returns-in_err-extend_from_slice-clause-part :
    goal.returns-in_err-extend_from_slice-clause-part
returns-in_err-extend_from_slice-clause-part g c = let part = taken_parts _ _ _ _ _ _ _ c.loop-bytes.invariant.taken c.in_ok-count.ensures.taken in search rules

pub returns-then-count-limit-clause-too_long : goal.returns-then-count-limit-clause-too_long
returns-then-count-limit-clause-too_long g c is =
    let more : c.args.limit - length c.loop-bytes.bytes.items < c.in_ok-count.count = search rules in
    taken_past _ _ _ _ _ _ _ _ _ c.loop-bytes.invariant.taken c.in_ok-count.ensures.taken c.in_ok-count.ensures.count more

pub returns-in_err-extend_from_slice-clause-no_memory :
    goal.returns-in_err-extend_from_slice-clause-no_memory
returns-in_err-extend_from_slice-clause-no_memory g c is =
    let less : c.in_ok-count.count ≤ c.args.limit - length c.loop-bytes.bytes.items = search rules in
    taken_within _ _ _ _ _ _ _ _ _ c.loop-bytes.invariant.taken c.in_ok-count.ensures.taken c.in_ok-count.ensures.count c.loop-bytes.invariant.short less
