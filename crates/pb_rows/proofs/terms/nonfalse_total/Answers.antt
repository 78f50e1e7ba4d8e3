use Rattle.std.proofs.Common.{arith}
use Rattle.pb_rows.specs.Closure.{literals_of}
use Rattle.pb_rows.proofs.Sums.{nonfalse_sum_le, nonfalse_sum_more, nonfalse_sum_more_all, nonfalse_sum_more_le}
use Rattle.pb_rows.proofs.terms.nonfalse_total.Goals as goal

pub overflow_add-sum : goal.overflow_add-sum
overflow_add-sum c = omega (arith, nonfalse_sum_more_le (literals_of c.args.values.now), nonfalse_sum_le (literals_of c.args.values.now))

pub loop-t-preserved : goal.loop-t-preserved
loop-t-preserved c = omega (arith, nonfalse_sum_more (literals_of c.args.values.now))

pub returns-clause-bound : goal.returns-clause-bound
returns-clause-bound c =
    omega (arith, c.loop-t.invariant, nonfalse_sum_more_all (literals_of c.args.values.now) c.args.terms.now c.loop-t.t-index, nonfalse_sum_le (literals_of c.args.values.now) c.args.terms.now)
