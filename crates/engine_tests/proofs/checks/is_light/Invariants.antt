use Rattle.std.proofs.Common.{◌≤◌, ◌+◌, take}
use Rattle.pb_rows.specs.Terms.{coef_sum}
use Rattle.engine_tests.proofs.checks.is_light.Given as goal

abbrev pub invariant-loop-k : goal.invariant-loop-k
invariant-loop-k l = coef_sum (take l.k l.terms) + l.left ≤ l.most
