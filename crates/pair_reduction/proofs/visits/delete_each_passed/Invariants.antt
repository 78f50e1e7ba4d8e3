use Rattle.std.proofs.Common.{[], take}
use Rattle.rank_tables.specs.Tables.{numbers_of}
use Rattle.pair_reduction.specs.Reduced.{Reduces}
use Rattle.pair_reduction.proofs.Visiting.{Deleting}
use Rattle.pair_reduction.proofs.visits.delete_each_passed.Given as goal

abbrev pub invariant-loop-w : goal.invariant-loop-w
invariant-loop-w l = record {
  reduces : Reduces l.model l.fn.deriv l.deriv l.fn.known.gone l.known.gone [];
  deleting : Deleting l.side l.model l.fn.known l.known (numbers_of (take l.w-index l.pairs));
}
