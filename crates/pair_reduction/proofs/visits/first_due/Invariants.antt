use Rattle.std.proofs.Common.{take}
use Rattle.rank_tables.specs.Tables.{numbers_of}
use Rattle.pair_reduction.specs.Served.{FirstOf}
use Rattle.pair_reduction.proofs.visits.first_due.Given as goal

abbrev pub invariant-loop-w : goal.invariant-loop-w
invariant-loop-w l = FirstOf l.side l.inst l.known l.n (numbers_of (take l.w-index l.pairs)) l.first
