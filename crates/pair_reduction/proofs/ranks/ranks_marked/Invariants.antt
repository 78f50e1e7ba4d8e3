use Rattle.std.proofs.Common.{take}
use Rattle.rank_tables.specs.Tables.{numbers_of}
use Rattle.pair_reduction.specs.Flags.{is_marked}
use Rattle.pair_reduction.specs.Ranks.{AreRanks}
use Rattle.pair_reduction.proofs.ranks.ranks_marked.Given as goal

abbrev pub invariant-loop-p : goal.invariant-loop-p
invariant-loop-p l = AreRanks l.side l.inst (is_marked l.marks) (numbers_of (take l.p-index l.pairs)) l.ranks.items
