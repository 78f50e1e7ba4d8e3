use Rattle.std.proofs.Common.{◌∙◌, ◌+◌, ◌<◌, List, length, map, sym, ap, subst, arith}
use Rattle.std.proofs.lemmas.Result.{err_from_is_err_and}
use Rattle.row_text.specs.Tokens.{tokens}
use Rattle.opb_text.specs.Drafts.{Drafted}
use Rattle.opb_text.specs.Refusal.{lines_of}
use Rattle.opb_text.specs.Statements.{Line}
use Rattle.opb_text.proofs.LineByLine.{HasRead, all_read, is_due, is_refused, lines_few, one_read, only_memory}
use Rattle.opb_text.proofs.ReadLimits.{read_within}
use Rattle.opb_text.proofs.reading.read_opb.Goals as goal

pub overflow_add-number : goal.overflow_add-number
overflow_add-number c =
    let all : List Line = lines_of c.args.bytes.now in
    let due : c.loop-line.number < length all = is_due all c.loop-line.number _ _ _ _ c.loop-line.invariant (ap (map tokens) c.in-Some.ensures.some) in
    omega (arith, due, lines_few c.args.bytes.now, c.requires)

pub returns-in_err-add_line-clause-refused : goal.returns-in_err-add_line-clause-refused
returns-in_err-add_line-clause-refused c =
    let p = err_from_is_err_and c.from_residual.result c.from_residual.ensures.1 in
    rw (p.1, p.2) (is_refused _ _ _ _ _ _ _ c.loop-line.invariant (ap (map tokens) c.in-Some.ensures.some) c.in_err-add_line.ensures.refused)

pub returns-in_err-add_line-clause-accepts : goal.returns-in_err-add_line-clause-accepts
returns-in_err-add_line-clause-accepts c =
    let p = err_from_is_err_and c.from_residual.result c.from_residual.ensures.1 in
    let refused = is_refused _ _ _ _ _ _ _ c.loop-line.invariant (ap (map tokens) c.in-Some.ensures.some) c.in_err-add_line.ensures.refused in
    rw (p.1, p.2) (λ accepted. only_memory _ _ refused accepted)

pub loop-line-preserved : goal.loop-line-preserved
loop-line-preserved c =
    let done = c.in_ok-add_line.ensures in
    let all : List Line = lines_of c.args.bytes.now in
    let read = one_read all c.loop-line.number _ _ _ _ c.loop-line.invariant (ap (map tokens) c.in-Some.ensures.some) done.fine in
    subst (λ (d : Drafted). HasRead all (c.loop-line.number + 1) (lines_of c.in-Some.after.now) d) (sym done.taken) read

pub returns-clause-spells : goal.returns-clause-spells
returns-clause-spells c =
    let read = all_read _ _ _ _ c.loop-line.invariant (ap (map tokens) c.in_default.ensures.none) in
    record { accepted = read.accepted; says = sym (c.into_formula.ensures ∙ ap (λ (d : Drafted). d.formula) read.draft_is) }

pub returns-clause-within : goal.returns-clause-within
returns-clause-within c =
    let read = all_read _ _ _ _ c.loop-line.invariant (ap (map tokens) c.in_default.ensures.none) in
    read_within c.args.bytes.now _ read.accepted (sym (c.into_formula.ensures ∙ ap (λ (d : Drafted). d.formula) read.draft_is))
