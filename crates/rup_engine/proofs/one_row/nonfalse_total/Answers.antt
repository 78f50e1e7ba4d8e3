use Rattle.std.proofs.Common.{arith}
use Rattle.pb_rows.specs.Closure.{among}
use Rattle.pb_rows.proofs.Sums.{nonfalse_sum_le, nonfalse_sum_more, nonfalse_sum_more_le}
use Rattle.rup_engine.proofs.one_row.nonfalse_total.Goals as goal

pub overflow_add-sum : goal.overflow_add-sum
overflow_add-sum c = omega (arith, nonfalse_sum_more_le (among c.args.trail.now.literals), nonfalse_sum_le (among c.args.trail.now.literals) c.args.terms.now)

pub loop-t-preserved : goal.loop-t-preserved
loop-t-preserved c = grind (arith, nonfalse_sum_more (among c.args.trail.now.literals))
