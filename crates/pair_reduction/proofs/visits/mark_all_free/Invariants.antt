use Rattle.std.proofs.Common.{take}
use Rattle.rank_tables.specs.Tables.{numbers_of}
use Rattle.pair_reduction.proofs.Visiting.{Marking}
use Rattle.pair_reduction.proofs.visits.mark_all_free.Given as goal

abbrev pub invariant-loop-p : goal.invariant-loop-p
invariant-loop-p l = Marking l.side l.inst l.fn.known l.known (numbers_of (take l.p-index l.pairs))
