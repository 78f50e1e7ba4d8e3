use Rattle.std.proofs.Common.{◌≡◌, drop}
use Rattle.proof_checker.specs.Tests.{known_terms}
use Rattle.proof_checker.proofs.steps.check_terms.Given as goal

abbrev pub invariant-loop-term : goal.invariant-loop-term
invariant-loop-term l = known_terms l.vars (drop l.term-index l.terms) ≡ known_terms l.vars l.terms
