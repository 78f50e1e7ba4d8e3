use Rattle.std.proofs.Common.{◌≡◌}
use Rattle.std.specs.Prelude.{flat_map}
use Rattle.rank_tables.specs.Numbers.{below}
use Rattle.capacity_bound.specs.Steps.{resident_operands}
use Rattle.capacity_bound.proofs.operands.operands_by_residents.Given as goal

abbrev pub invariant-loop-r : goal.invariant-loop-r
invariant-loop-r l = l.operands.items ≡ flat_map (resident_operands l.inst l.gone) (below l.r)
