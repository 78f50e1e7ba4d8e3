use Rattle.std.proofs.Common.{◌+◌, length}
use Rattle.pb_rows.proofs.Weakenings.{IsWeakening}
use Rattle.pb_rows.proofs.weakening.without.Given as goal

abbrev pub invariant-loop-t : goal.invariant-loop-t
invariant-loop-t l = IsWeakening l.fn.vars l.fn.terms l.kept.items l.gone l.vars_left l.left

abbrev pub decreases-loop-t : goal.decreases-loop-t
decreases-loop-t l = length l.left + length l.vars_left
