use Rattle.std.proofs.Common.{◌≡◌, ◌++◌, map, take}
use Rattle.rank_tables.specs.Tables.{numbers_of}
use Rattle.capacity_bound.specs.Steps.{pair_operand}
use Rattle.capacity_bound.proofs.operands.push_pairs.Given as goal

abbrev pub invariant-loop-p : goal.invariant-loop-p
invariant-loop-p l = l.operands.items ≡ l.initial.operands.items ++ map (pair_operand l.gone) (numbers_of (take l.p-index l.pairs))
