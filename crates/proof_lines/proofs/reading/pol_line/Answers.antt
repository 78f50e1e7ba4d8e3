use Rattle.std.proofs.Common.{◌≡◌, sym, ap, ◌∙◌, length, ◌==◌, true, false}
use Rattle.row_text.specs.Tokens.{tokens}
use Rattle.proof_lines.specs.Spelling.{read_steps}
use Rattle.proof_lines.specs.declared.line.Line.TheVariants.{Pol}
use Rattle.proof_lines.specs.declared.refusal.LineKind.TheVariants.{Pol as pol_kind}
use Rattle.proof_lines.proofs.Judged.{answered, some_steps, steps-answered, steps_none, steps_some}
use Rattle.proof_lines.proofs.reading.pol_line.Goals as goal

pub returns-then-is_empty : goal.returns-then-is_empty
returns-then-is_empty c =
    let none : (length c.in-Value.steps == 0) ≡ true = ap (λ xs. length xs == 0) (sym c.as_slice.ensures) ∙ sym c.is_empty.ensures ∙ c.if-is_empty.true in
    sym (steps-answered (read_steps (tokens c.args.rest.now))) ∙ ap (λ r. answered Pol pol_kind (some_steps r)) (sym c.in_ok-steps.ensures ∙ c.in-Value.is) ∙ ap (answered Pol pol_kind) (steps_none c.in-Value.steps none)

pub returns-else-is_empty : goal.returns-else-is_empty
returns-else-is_empty c =
    let some : (length c.in-Value.steps == 0) ≡ false = ap (λ xs. length xs == 0) (sym c.as_slice.ensures) ∙ sym c.is_empty.ensures ∙ c.if-is_empty.false in
    sym (steps-answered (read_steps (tokens c.args.rest.now))) ∙ ap (λ r. answered Pol pol_kind (some_steps r)) (sym c.in_ok-steps.ensures ∙ c.in-Value.is) ∙ ap (answered Pol pol_kind) (steps_some c.in-Value.steps some)

pub returns-in-TooBig : goal.returns-in-TooBig
returns-in-TooBig c = sym (steps-answered (read_steps (tokens c.args.rest.now))) ∙ ap (λ r. answered Pol pol_kind (some_steps r)) (sym c.in_ok-steps.ensures ∙ c.in-TooBig.is)

pub returns-in-Unspelled : goal.returns-in-Unspelled
returns-in-Unspelled c = sym (steps-answered (read_steps (tokens c.args.rest.now))) ∙ ap (λ r. answered Pol pol_kind (some_steps r)) (sym c.in_ok-steps.ensures ∙ c.in-Unspelled.is)
