use Rattle.std.proofs.Common.{◌≡◌, length}
use Rattle.std.specs.Prelude.{is_some}
use Rattle.row_text.specs.Tokens.{tokens}
use Rattle.opb_text.specs.Statements.{read_objective}
use Rattle.opb_text.proofs.objective.is_objective.Given as goal

abbrev pub invariant-loop-first : goal.invariant-loop-first
invariant-loop-first l = is_some (read_objective (tokens l.line)) ≡ is_some (read_objective (tokens l.rest))

abbrev pub decreases-loop-first : goal.decreases-loop-first
decreases-loop-first l = length l.rest
