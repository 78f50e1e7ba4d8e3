use Rattle.std.proofs.Common.{◌≡◌, drop}
use Rattle.proof_checker.specs.Tests.{known_literals}
use Rattle.proof_checker.proofs.solution.check_literals.Given as goal

abbrev pub invariant-loop-lit : goal.invariant-loop-lit
invariant-loop-lit l = known_literals l.vars (drop l.lit-index l.literals) ≡ known_literals l.vars l.literals
