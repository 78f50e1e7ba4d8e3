use Rattle.std.proofs.Common.{◌∙◌, sym}
use Rattle.row_text.specs.Rows.{is_small_row, read_row}
use Rattle.row_text.specs.Tokens.{tokens}
use Rattle.row_text.proofs.Kept.{value-read}
use Rattle.opb_text.proofs.Refusing.{big_numbers, no_row}
use Rattle.opb_text.proofs.constraint.written_row.Goals as goal

pub returns-in-Value-clause-spelled : goal.returns-in-Value-clause-spelled
returns-in-Value-clause-spelled c = (value-read is_small_row _ c.in-Value.row (sym c.in-Value.is ∙ c.in_ok-row.ensures)).0

pub returns-in-TooBig-clause-refused : goal.returns-in-TooBig-clause-refused
returns-in-TooBig-clause-refused c begun rows = big_numbers c.args.number begun rows (read_row (tokens c.args.line.now)) (sym c.in-TooBig.is ∙ c.in_ok-row.ensures)

pub returns-in-Unspelled-clause-refused : goal.returns-in-Unspelled-clause-refused
returns-in-Unspelled-clause-refused c begun rows = no_row c.args.number begun rows (read_row (tokens c.args.line.now)) (sym c.in-Unspelled.is ∙ c.in_ok-row.ensures)
