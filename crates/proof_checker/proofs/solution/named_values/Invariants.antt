use Rattle.std.proofs.Common.{take}
use Rattle.proof_checker.specs.Tests.{AreNamed}
use Rattle.proof_checker.proofs.solution.named_values.Given as goal

abbrev pub invariant-loop-lit : goal.invariant-loop-lit
invariant-loop-lit l = AreNamed l.vars (take l.lit-index l.literals) l.values.items
