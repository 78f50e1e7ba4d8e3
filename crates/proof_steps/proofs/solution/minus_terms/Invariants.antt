use Rattle.std.proofs.Common.{◌≡◌, take}
use Rattle.proof_rules.specs.States.{minus_terms}
use Rattle.proof_steps.proofs.solution.minus_terms.Given as goal

abbrev pub invariant-loop-term : goal.invariant-loop-term
invariant-loop-term l = l.minus.items ≡ minus_terms (take l.term-index l.terms)
