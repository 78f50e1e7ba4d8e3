use Rattle.std.proofs.Common.{◌≡◌, length}
use Rattle.std.specs.Prelude.{option_map}
use Rattle.row_text.specs.Numbers.{read_each}
use Rattle.row_text.specs.Tokens.{tokens}
use Rattle.proof_lines.specs.Spelling.{read_row_no}
use Rattle.proof_lines.proofs.Onto.{behind}
use Rattle.proof_lines.proofs.items.read_ids.Given as goal

abbrev pub invariant-loop-token : goal.invariant-loop-token
invariant-loop-token l = read_each read_row_no (tokens l.line) ≡ option_map (behind l.ids) (read_each read_row_no (tokens l.rest))

abbrev pub decreases-loop-token : goal.decreases-loop-token
decreases-loop-token l = length l.rest
