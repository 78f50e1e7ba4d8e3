use Rattle.std.proofs.Common.{◌≡◌, length}
use Rattle.std.specs.Prelude.{option_map}
use Rattle.row_text.specs.Numbers.{read_each, read_literal}
use Rattle.row_text.specs.Tokens.{tokens}
use Rattle.proof_lines.proofs.Onto.{behind}
use Rattle.proof_lines.proofs.items.read_literals.Given as goal

abbrev pub invariant-loop-token : goal.invariant-loop-token
invariant-loop-token l = read_each read_literal (tokens l.line) ≡ option_map (behind l.lits) (read_each read_literal (tokens l.rest))

abbrev pub decreases-loop-token : goal.decreases-loop-token
decreases-loop-token l = length l.rest
