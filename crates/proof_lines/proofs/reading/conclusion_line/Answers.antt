use Rattle.std.proofs.Common.{sym, ap, ◌∙◌}
use Rattle.row_text.specs.Tokens.{tokens}
use Rattle.proof_lines.specs.Spelling.{read_claim}
use Rattle.proof_lines.specs.declared.line.Line.TheVariants.{Conclusion}
use Rattle.proof_lines.specs.declared.refusal.LineKind.TheVariants.{Conclusion as conclusion_kind}
use Rattle.proof_lines.proofs.Judged.{answered, claim-answered}
use Rattle.proof_lines.proofs.reading.conclusion_line.Goals as goal

pub returns-in-Value : goal.returns-in-Value
returns-in-Value c = ap (answered Conclusion conclusion_kind) (sym c.in-Value.is ∙ c.read_claim.ensures) ∙ claim-answered (read_claim (tokens c.args.rest.now))

pub returns-in-TooBig : goal.returns-in-TooBig
returns-in-TooBig c = ap (answered Conclusion conclusion_kind) (sym c.in-TooBig.is ∙ c.read_claim.ensures) ∙ claim-answered (read_claim (tokens c.args.rest.now))

pub returns-in-Unspelled : goal.returns-in-Unspelled
returns-in-Unspelled c = ap (answered Conclusion conclusion_kind) (sym c.in-Unspelled.is ∙ c.read_claim.ensures) ∙ claim-answered (read_claim (tokens c.args.rest.now))
