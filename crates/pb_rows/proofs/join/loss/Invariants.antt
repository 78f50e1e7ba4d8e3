use Rattle.std.proofs.Common.{◌+◌, List, length}
use Rattle.hrt_base.specs.declared.literal.Term.{Term}
use Rattle.pb_rows.proofs.Heads.{IsMerging}
use Rattle.pb_rows.proofs.join.loss.Given as goal

abbrev pub invariant-loop-u : goal.invariant-loop-u
invariant-loop-u l = (out : List Term) × IsMerging l.fn.a l.fn.b out l.lost l.left l.right

abbrev pub decreases-loop-u : goal.decreases-loop-u
decreases-loop-u l = length l.left + length l.right
