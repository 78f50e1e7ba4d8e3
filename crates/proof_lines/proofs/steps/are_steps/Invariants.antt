use Rattle.std.proofs.Common.{◌≡◌, length}
use Rattle.std.specs.Prelude.{is_some}
use Rattle.row_text.specs.Tokens.{tokens}
use Rattle.proof_lines.specs.Spelling.{read_steps}
use Rattle.proof_lines.proofs.steps.are_steps.Given as goal

abbrev pub invariant-loop-first : goal.invariant-loop-first
invariant-loop-first l = is_some (read_steps (tokens l.line)) ≡ is_some (read_steps (tokens l.rest))

abbrev pub decreases-loop-first : goal.decreases-loop-first
decreases-loop-first l = length l.rest
