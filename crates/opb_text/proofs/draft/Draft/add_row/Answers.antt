use Rattle.std.proofs.Common.{length}
use Rattle.std.proofs.lemmas.Result.{err_from_is_err_and}
use Rattle.opb_text.proofs.Refusing.{spelled_row}
use Rattle.opb_text.proofs.draft.Draft.add_row.Goals as goal

pub returns-in_err-written-clause-refused : goal.returns-in_err-written-clause-refused
returns-in_err-written-clause-refused c =
    let p = err_from_is_err_and c.from_residual.result c.from_residual.ensures.1 in
    rw (p.1, p.2) (c.in_err-written.ensures.refused c.args.self.now.begun (length c.args.self.now.formula.rows))

pub returns-in_err-row-clause-refused : goal.returns-in_err-row-clause-refused
returns-in_err-row-clause-refused c =
    let p = err_from_is_err_and c.from_residual-in_err-row.result c.from_residual-in_err-row.ensures.1 in
    let rows = length c.args.self.now.formula.rows in
    rw (p.1, p.2) (spelled_row c.args.number c.args.self.now.begun rows _ _ _ c.in_ok-written.ensures.spelled (c.in_err-row.ensures.refused rows))
