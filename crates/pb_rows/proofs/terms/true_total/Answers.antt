use Rattle.std.proofs.Common.{arith}
use Rattle.pb_rows.specs.Points.{point_of}
use Rattle.pb_rows.proofs.Sums.{true_sum_le, true_sum_more, true_sum_more_le}
use Rattle.pb_rows.proofs.terms.true_total.Goals as goal

pub overflow_add-sum : goal.overflow_add-sum
overflow_add-sum c = omega (arith, true_sum_more_le (point_of c.args.point.now), true_sum_le (point_of c.args.point.now))

pub loop-t-preserved : goal.loop-t-preserved
loop-t-preserved c = omega (arith, true_sum_more (point_of c.args.point.now))
