use Rattle.std.proofs.Common.{◌≡◌, length}
use Rattle.std.specs.Prelude.{option_map}
use Rattle.row_text.specs.Numbers.{read_variable}
use Rattle.row_text.specs.Tokens.{tokens}
use Rattle.proof_lines.specs.Notes.{read_front}
use Rattle.proof_lines.proofs.Fronts.{with_items}
use Rattle.proof_lines.proofs.note_reading.read_variables.Given as goal

abbrev pub invariant-loop-token : goal.invariant-loop-token
invariant-loop-token l = read_front read_variable (tokens l.line) ≡ option_map (with_items l.vars) (read_front read_variable (tokens l.rest))

abbrev pub decreases-loop-token : goal.decreases-loop-token
decreases-loop-token l = length l.rest
