use Rattle.std.proofs.Common.{◌≤◌, ◌∙◌, ap, arith}
use Rattle.rank_tables.specs.Instance.{pair_count}
use Rattle.matching_log.proofs.ClosingLine.{closes, closing_makes, closing_writable}
use Rattle.matching_log.proofs.closing.close.Goals as goal

pub pol_that_fits-requires-clause-writable : goal.pol_that_fits-requires-clause-writable
pol_that_fits-requires-clause-writable c =
    let few : pair_count c.args.deriv.now.lists ≤ 100000 = omega (arith, c.pairs-pairs.ensures.count, c.pairs-pairs.ensures.few, ap pair_count (c.instance.ensures ∙ c.requires.same)) in
    closing_writable c.args.size c.args.bound c.args.larger c.args.deriv.now few (omega (arith, c.ranges.size.fits)) c.requires.bound c.requires.larger c.next-next.ensures.in_order (omega (arith, c.requires.next))

pub pol_that_fits-requires-clause-made : goal.pol_that_fits-requires-clause-made
pol_that_fits-requires-clause-made c =
    let few : pair_count c.args.deriv.now.lists ≤ 100000 = omega (arith, c.pairs-pairs.ensures.count, c.pairs-pairs.ensures.few, ap pair_count (c.instance.ensures ∙ c.requires.same)) in
    closing_makes c.args.size c.args.bound c.args.larger c.args.deriv.now few (omega (arith, c.ranges.size.fits)) c.requires.bound c.requires.larger

pub returns-clause-closed : goal.returns-clause-closed
returns-clause-closed c =
    let few : pair_count c.args.deriv.now.lists ≤ 100000 = omega (arith, c.pairs-pairs.ensures.count, c.pairs-pairs.ensures.few, ap pair_count (c.instance.ensures ∙ c.requires.same)) in
    closes c.args.size c.args.bound c.args.larger c.args.deriv.now few (omega (arith, c.ranges.size.fits)) c.requires.bound c.requires.larger c.in_ok-id.id c.pol_that_fits.new.self c.in_ok-id.ensures.id
    c.next-next.ensures.in_order (omega (arith, c.requires.next)) c.requires.unconcluded c.in_ok-id.ensures.step
