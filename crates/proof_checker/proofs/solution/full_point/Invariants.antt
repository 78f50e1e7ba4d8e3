use Rattle.std.proofs.Common.{◌≡◌, map, take}
use Rattle.std.specs.Prelude.{Some}
use Rattle.proof_checker.proofs.solution.full_point.Given as goal

abbrev pub invariant-loop-value : goal.invariant-loop-value
invariant-loop-value l = map Some l.point.items ≡ take l.value-index l.values
