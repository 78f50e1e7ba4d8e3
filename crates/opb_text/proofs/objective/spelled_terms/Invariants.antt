use Rattle.std.proofs.Common.{◌≡◌, length}
use Rattle.std.specs.Prelude.{option_map}
use Rattle.row_text.specs.Tokens.{tokens}
use Rattle.opb_text.specs.Statements.{read_objective}
use Rattle.opb_text.proofs.ObjectiveSteps.{onto}
use Rattle.opb_text.proofs.objective.spelled_terms.Given as goal

abbrev pub invariant-loop-first : goal.invariant-loop-first
invariant-loop-first l = read_objective (tokens l.line) ≡ option_map (onto l.terms.items) (read_objective (tokens l.rest))

abbrev pub decreases-loop-first : goal.decreases-loop-first
decreases-loop-first l = length l.rest
