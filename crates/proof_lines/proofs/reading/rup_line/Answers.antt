use Rattle.std.proofs.Common.{sym, ap, ◌∙◌}
use Rattle.row_text.specs.Tokens.{tokens}
use Rattle.row_text.specs.Rows.{read_row}
use Rattle.proof_lines.specs.declared.line.Line.TheVariants.{Rup}
use Rattle.proof_lines.specs.declared.refusal.LineKind.TheVariants.{Rup as rup_kind}
use Rattle.proof_lines.proofs.Judged.{answered, row-answered}
use Rattle.proof_lines.proofs.reading.rup_line.Goals as goal

pub returns-in-Value : goal.returns-in-Value
returns-in-Value c = sym (row-answered (read_row (tokens c.args.rest.now))) ∙ ap (answered Rup rup_kind) (sym c.in_ok-row.ensures ∙ c.in-Value.is)

pub returns-in-TooBig : goal.returns-in-TooBig
returns-in-TooBig c = sym (row-answered (read_row (tokens c.args.rest.now))) ∙ ap (answered Rup rup_kind) (sym c.in_ok-row.ensures ∙ c.in-TooBig.is)

pub returns-in-Unspelled : goal.returns-in-Unspelled
returns-in-Unspelled c = sym (row-answered (read_row (tokens c.args.rest.now))) ∙ ap (answered Rup rup_kind) (sym c.in_ok-row.ensures ∙ c.in-Unspelled.is)
