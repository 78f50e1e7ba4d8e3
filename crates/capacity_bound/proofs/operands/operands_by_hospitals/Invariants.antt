use Rattle.std.proofs.Common.{◌≡◌}
use Rattle.std.specs.Prelude.{flat_map}
use Rattle.rank_tables.specs.Numbers.{below}
use Rattle.capacity_bound.specs.Steps.{hospital_operands}
use Rattle.capacity_bound.proofs.operands.operands_by_hospitals.Given as goal

abbrev pub invariant-loop-h : goal.invariant-loop-h
invariant-loop-h l = l.operands.items ≡ flat_map (hospital_operands l.inst l.gone) (below l.h)
