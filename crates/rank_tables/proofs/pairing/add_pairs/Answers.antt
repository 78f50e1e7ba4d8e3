use Rattle.std.proofs.Common.{◌≡◌, ◌<◌, length, ap, arith, length-append, take, get_or, ◌∙◌}
use Rattle.std.proofs.lemmas.Result.{err_from_is_err_and}
use Rattle.std.proofs.lemmas.List.{get_or_default}
use Rattle.rank_tables.specs.WellFormed.{most_pairs}
use Rattle.rank_tables.specs.Building.{mark_of, found}
use Rattle.rank_tables.proofs.Turning.{found-part}
use Rattle.rank_tables.proofs.pairing.add_pairs.Goals as goal

pub returns-in_err-add_pair-clause-too_many : goal.returns-in_err-add_pair-clause-too_many
returns-in_err-add_pair-clause-too_many c =
    let p = err_from_is_err_and c.from_residual.result c.from_residual.ensures.1 in
    let before = found c.args.resident (take c.loop-m.m-index c.args.list.now) c.args.ranks.now in
    let within : c.loop-m.m-index < length c.args.list.now = omega arith in
    let at_index = get_or c.args.list.now c.loop-m.m-index (mark_of 0 0) in
    let more : length before < length (found c.args.resident c.args.list.now c.args.ranks.now) =
    found-part c.args.resident c.args.list.now c.args.ranks.now c.loop-m.m-index at_index within (get_or_default c.args.list.now c.loop-m.m-index (mark_of 0 0) at_index within)
    c.if-rank-gt0.true in
    rw (p.1, p.2) (λ e.
    let full : length c.loop-m.entries.items ≡ most_pairs = c.in_err-add_pair.ensures.too_many e in
    omega (arith, full, more, ap length c.loop-m.invariant.1 ∙ length-append c.args.entries.now.items before))
