use Rattle.std.proofs.Common.{◌≡◌, length}
use Rattle.std.specs.Prelude.{option_map}
use Rattle.row_text.specs.Numbers.{read_literal}
use Rattle.row_text.specs.Tokens.{tokens}
use Rattle.proof_lines.specs.Notes.{read_front}
use Rattle.proof_lines.proofs.Fronts.{with_items}
use Rattle.proof_lines.proofs.note_reading.read_decisions.Given as goal

abbrev pub invariant-loop-token : goal.invariant-loop-token
invariant-loop-token l = read_front read_literal (tokens l.line) ≡ option_map (with_items l.lits) (read_front read_literal (tokens l.rest))

abbrev pub decreases-loop-token : goal.decreases-loop-token
decreases-loop-token l = length l.rest
