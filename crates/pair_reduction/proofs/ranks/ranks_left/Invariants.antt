use Rattle.std.proofs.Common.{not, take}
use Rattle.rank_tables.specs.Tables.{numbers_of}
use Rattle.derivation.specs.Deletions.{is_deleted}
use Rattle.pair_reduction.specs.Ranks.{AreRanks}
use Rattle.pair_reduction.proofs.ranks.ranks_left.Given as goal

abbrev pub invariant-loop-p : goal.invariant-loop-p
invariant-loop-p l = AreRanks l.side l.inst (λ q. not (is_deleted l.gone q)) (numbers_of (take l.p-index l.pairs)) l.ranks.items
