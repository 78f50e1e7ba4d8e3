use Rattle.row_arena.specs.Held.{row_at}
use Rattle.conflict_cuts.proofs.Walks.{IsWalking}
use Rattle.conflict_cuts.proofs.walking.last_clause.Given as goal

abbrev pub invariant-loop-k : goal.invariant-loop-k
invariant-loop-k l = IsWalking l.fn.engine l.fn.marks (row_at l.fn.conflict.0 l.fn.engine.held) l.k l.fn.deriv l.deriv l.made

abbrev pub decreases-loop-k : goal.decreases-loop-k
decreases-loop-k l = l.k
