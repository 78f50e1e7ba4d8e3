use Rattle.std.proofs.Common.{[], arith, rules}
use Rattle.std.proofs.lemmas.Grind.{common_steps}
use Rattle.pb_rows.specs.Joined.{signless_all}
use Rattle.pb_rows.proofs.ByNets.{holds_where, made_normal}
use Rattle.pb_rows.proofs.Order.{put_all_rising, put_all_sum}
use Rattle.pb_rows.proofs.Signs.{positive_part_le, positive_part_passed, signless_from, signless_sum, sizes_passed}
use Rattle.pb_rows.proofs.row.Row.from_terms.Goals as goal

pub join_all-requires-clause-from : goal.join_all-requires-clause-from
join_all-requires-clause-from c = rw c.in-Ok.ensures (signless_from c.args.terms.now)

pub join_all-requires-clause-fits : goal.join_all-requires-clause-fits
join_all-requires-clause-fits c =
    let h = c.if-not-do_sizes_fit.ensures.0 (search rules) in
    rw c.in-Ok.ensures (omega (arith, h, signless_sum c.args.terms.now))

pub invariant_of-result : goal.invariant_of-result
invariant_of-result c =
    let h = c.if-not-do_sizes_fit.ensures.0 (search rules) in
    let from = signless_from c.args.terms.now in
    record {
      rising = rw (c.in-Ok-join_all.ensures.terms, c.in-Ok.ensures) (put_all_rising 0 [] (signless_all c.args.terms.now) from tt);
      fits = record {
        sum = rw (c.in-Ok-join_all.ensures.terms, c.in-Ok.ensures) (omega (arith, h, put_all_sum 0 [] (signless_all c.args.terms.now) from, signless_sum c.args.terms.now));
        degree = omega (arith, h, c.saturating_sub.ensures, c.or_zero.ensures, positive_part_passed c.args.at_least c.turned_total.result c.ranges.at_least, positive_part_le c.args.at_least c.turned_total.result, c.turned_total.ensures.bound, sizes_passed c.args.terms.now c.args.at_least c.ranges.at_least);
      };
    }

pub returns-in-Ok-join_all-clause-ok : goal.returns-in-Ok-join_all-clause-ok
returns-in-Ok-join_all-clause-ok c = made_normal _ c.args.terms.now c.args.at_least (grind (arith, common_steps))

pub returns-in-Ok-join_all-clause-holds : goal.returns-in-Ok-join_all-clause-holds
returns-in-Ok-join_all-clause-holds c = holds_where c.args.terms.now c.args.at_least _ (returns-in-Ok-join_all-clause-ok c)
