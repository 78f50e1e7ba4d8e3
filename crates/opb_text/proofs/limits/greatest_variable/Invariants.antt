use Rattle.std.proofs.Common.{◌≡◌, take}
use Rattle.opb_text.specs.Statements.{greatest_variable}
use Rattle.opb_text.proofs.limits.greatest_variable.Given as goal

abbrev pub invariant-loop-term : goal.invariant-loop-term
invariant-loop-term l = l.greatest ≡ greatest_variable (take l.term-index l.terms)
