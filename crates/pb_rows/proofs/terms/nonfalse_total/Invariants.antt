use Rattle.std.proofs.Common.{◌≡◌, take}
use Rattle.pb_rows.specs.Closure.{literals_of, nonfalse_sum}
use Rattle.pb_rows.proofs.terms.nonfalse_total.Given as goal

abbrev pub invariant-loop-t : goal.invariant-loop-t
invariant-loop-t l = l.sum ≡ nonfalse_sum (literals_of l.values) (take l.t-index l.terms)
