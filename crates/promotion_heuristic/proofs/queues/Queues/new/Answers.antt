use Rattle.promotion_heuristic.proofs.HeapRows.{rows-empty}
use Rattle.promotion_heuristic.proofs.queues.Queues.new.Goals as goal

pub returns-clause-empty : goal.returns-clause-empty
returns-clause-empty c = rows-empty c.loop-h.rows.items c.loop-h.invariant.empty
