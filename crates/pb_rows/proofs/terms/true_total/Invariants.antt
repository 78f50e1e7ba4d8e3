use Rattle.std.proofs.Common.{◌≡◌, take}
use Rattle.pb_rows.specs.Points.{point_of, true_sum}
use Rattle.pb_rows.proofs.terms.true_total.Given as goal

abbrev pub invariant-loop-t : goal.invariant-loop-t
invariant-loop-t l = l.sum ≡ true_sum (point_of l.point) (take l.t-index l.terms)
