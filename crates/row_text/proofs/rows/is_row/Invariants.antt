use Rattle.std.proofs.Common.{◌≡◌, length}
use Rattle.std.specs.Prelude.{is_some}
use Rattle.row_text.specs.Rows.{read_row}
use Rattle.row_text.specs.Tokens.{tokens}
use Rattle.row_text.proofs.rows.is_row.Given as goal

abbrev pub invariant-loop-first : goal.invariant-loop-first
invariant-loop-first l = is_some (read_row (tokens l.line)) ≡ is_some (read_row (tokens l.rest))

abbrev pub decreases-loop-first : goal.decreases-loop-first
decreases-loop-first l = length l.rest
