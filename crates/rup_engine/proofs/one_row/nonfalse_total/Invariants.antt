use Rattle.std.proofs.Common.{◌≡◌, take}
use Rattle.pb_rows.specs.Closure.{among, nonfalse_sum}
use Rattle.rup_engine.proofs.one_row.nonfalse_total.Given as goal

abbrev pub invariant-loop-t : goal.invariant-loop-t
invariant-loop-t l = l.sum ≡ nonfalse_sum (among l.trail.literals) (take l.t-index l.terms)
