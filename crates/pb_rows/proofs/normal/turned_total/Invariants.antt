use Rattle.std.proofs.Common.{◌≡◌, take}
use Rattle.pb_rows.specs.Joined.{turned_sum}
use Rattle.pb_rows.proofs.normal.turned_total.Given as goal

abbrev pub invariant-loop-t : goal.invariant-loop-t
invariant-loop-t l = l.sum ≡ turned_sum (take l.t-index l.terms)
