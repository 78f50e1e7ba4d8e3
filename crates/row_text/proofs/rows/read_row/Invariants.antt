use Rattle.std.proofs.Common.{◌≡◌, length, true}
use Rattle.std.specs.Prelude.{option_map}
use Rattle.std.specs.List.{list_all}
use Rattle.row_text.specs.Rows.{is_small_term, read_row}
use Rattle.row_text.specs.Tokens.{tokens}
use Rattle.row_text.proofs.RowSteps.{with_terms}
use Rattle.row_text.proofs.rows.read_row.Given as goal

abbrev pub invariant-loop-first : goal.invariant-loop-first
invariant-loop-first l = record {
  whole : read_row (tokens l.line) ≡ option_map (with_terms l.terms.items) (read_row (tokens l.rest));
  small : list_all is_small_term l.terms.items ≡ true;
}

abbrev pub decreases-loop-first : goal.decreases-loop-first
decreases-loop-first l = length l.rest
