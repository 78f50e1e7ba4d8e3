use Rattle.std.proofs.Common.{ap, ◌∙◌}
use Rattle.std.specs.Prelude.{Ok}
use Rattle.std.proofs.lemmas.Result.{err_from_is_err_and}
use Rattle.proof_checker.proofs.Cutting.{first-none, first-taken}
use Rattle.proof_checker.proofs.judging.take_line.Goals as goal

pub next_stage-requires-clause-made : goal.next_stage-requires-clause-made
next_stage-requires-clause-made c = (first-taken c.args.bytes.now c.in-Ok-Some.line c.in-Ok-Some.len (c.in-Ok-Some.ensures ∙ ap Ok c.in-Ok-Some.field-0-is)).made

pub next_stage-requires-clause-small : goal.next_stage-requires-clause-small
next_stage-requires-clause-small c = (first-taken c.args.bytes.now c.in-Ok-Some.line c.in-Ok-Some.len (c.in-Ok-Some.ensures ∙ ap Ok c.in-Ok-Some.field-0-is)).small

pub returns-in-Ok-None-clause-taken : goal.returns-in-Ok-None-clause-taken
returns-in-Ok-None-clause-taken c = first-none c.args.bytes.now (c.in-Ok-None.ensures ∙ ap Ok c.in-Ok-None.field-0-is)

pub returns-in_ok-next-in-Ok-Some-clause-taken : goal.returns-in_ok-next-in-Ok-Some-clause-taken
returns-in_ok-next-in-Ok-Some-clause-taken c =
    let taken = first-taken c.args.bytes.now c.in-Ok-Some.line c.in-Ok-Some.len (c.in-Ok-Some.ensures ∙ ap Ok c.in-Ok-Some.field-0-is) in
    record {
      line = c.in-Ok-Some.line;
      goes = c.in_ok-next-in-Ok-Some.ensures.ok;
      whole = taken.begins.whole;
      rest = taken.begins.rest;
      some = taken.begins.some;
      within = taken.begins.within;
    }

pub returns-in_err-next-in-Ok-Some-clause-refused : goal.returns-in_err-next-in-Ok-Some-clause-refused
returns-in_err-next-in-Ok-Some-clause-refused c =
    let taken = first-taken c.args.bytes.now c.in-Ok-Some.line c.in-Ok-Some.len (c.in-Ok-Some.ensures ∙ ap Ok c.in-Ok-Some.field-0-is) in
    let p = err_from_is_err_and c.from_residual.result c.from_residual.ensures.1 in
    rw (p.1, p.2, taken.begins.whole) c.in_err-next-in-Ok-Some.ensures.refused

pub returns-in-Err-clause-refused : goal.returns-in-Err-clause-refused
returns-in-Err-clause-refused c = c.unread_at.ensures c.args.formula.now c.args.state.now.state c.args.bytes.now c.in-Err.ensures
