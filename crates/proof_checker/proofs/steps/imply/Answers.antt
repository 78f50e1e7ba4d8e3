use Rattle.std.proofs.Common.{sym, ap, ◌∙◌}
use Rattle.std.proofs.lemmas.Bool.{false≢true}
use Rattle.pb_rows.specs.Formula.{Formula}
use Rattle.proof_checker.specs.Kept.{with_new_row}
use Rattle.proof_checker.proofs.Covering.{rup-over}
use Rattle.proof_checker.proofs.Following.{halts-not_implied, implies-steps}
use Rattle.proof_checker.proofs.steps.imply.Goals as goal

pub implies-requires : goal.implies-requires
implies-requires c =
    let over = rup-over c.formula.inside.vars c.args.written.now c.in_ok-row.row c.requires.made c.in_ok-row.ensures.ok in
    rw (c.requires.vars, ← c.formula.view_is) over.1

pub add-requires-clause-over : goal.add-requires-clause-over
add-requires-clause-over c =
    let over = rup-over c.formula.inside.vars c.args.written.now c.in_ok-row.row c.requires.made c.in_ok-row.ensures.ok in
    rw (c.in_ok-implies.ensures.same, c.requires.vars, ← c.formula.view_is) over.1

pub returns-then-not-branch-clause-refused : goal.returns-then-not-branch-clause-refused
returns-then-not-branch-clause-refused c =
    let over = rup-over c.formula.inside.vars c.args.written.now c.in_ok-row.row c.requires.made c.in_ok-row.ensures.ok in
    halts-not_implied c.args.formula.now c.args.state.now c.args.written.now c.in_ok-row.row c.formula.inside.vars (ap (λ (f : Formula). f.vars) c.formula.view_is) c.in_ok-row.ensures.ok over.0
    (λ h. false≢true (sym c.if-not-branch.true ∙ c.in_ok-implies.ensures.is.1 h))

pub returns-clause-ok : goal.returns-clause-ok
returns-clause-ok c =
    let over = rup-over c.formula.inside.vars c.args.written.now c.in_ok-row.row c.requires.made c.in_ok-row.ensures.ok in
    implies-steps c.args.formula.now c.args.state.now c.args.written.now c.in_ok-row.row c.formula.inside.vars (ap (λ (f : Formula). f.vars) c.formula.view_is) c.in_ok-row.ensures.ok over.0 c.add.new.self
    (c.in_ok-implies.ensures.is.0 c.if-not-branch.false) (c.in_ok-add.ensures ∙ ap (with_new_row c.in_ok-row.row) c.in_ok-implies.ensures.same)
