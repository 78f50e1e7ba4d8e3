use Rattle.std.proofs.Common.{◌∙◌, length, sym, ap}
use Rattle.std.proofs.lemmas.Result.{err_from_is_err_and}
use Rattle.opb_text.specs.Drafts.{Drafted}
use Rattle.opb_text.proofs.Refusing.{first_objective, late_objective}
use Rattle.opb_text.proofs.draft.Draft.add_objective.Goals as goal

pub returns-then-self-clause-refused : goal.returns-then-self-clause-refused
returns-then-self-clause-refused c =
    late_objective c.args.number c.args.self.now.begun (length c.args.self.now.formula.rows) _ (sym (ap (λ (d : Drafted). d.begun) c.self.view_is) ∙ c.if-self.true)

pub returns-in_err-terms-clause-refused : goal.returns-in_err-terms-clause-refused
returns-in_err-terms-clause-refused c =
    let p = err_from_is_err_and c.from_residual.result c.from_residual.ensures.1 in
    rw (p.1, p.2)
    (first_objective c.args.number c.args.self.now.begun (length c.args.self.now.formula.rows) _ _ (sym (ap (λ (d : Drafted). d.begun) c.self.view_is) ∙ c.if-self.false) c.in_err-terms.ensures.refused)
