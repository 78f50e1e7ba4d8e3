use Rattle.std.proofs.Common.{◌∙◌, subst, List, Bool, Contains}
use Rattle.std.specs.Prelude.{Option, None}
use Rattle.std.proofs.lemmas.Result.{err_from_is_err_and}
use Rattle.proof_checker.specs.Faults.{reason_of}
use Rattle.proof_checker.proofs.Halting.{if_reason}
use Rattle.proof_checker.proofs.Naming.{named-all, named-missing}
use Rattle.proof_checker.proofs.solution.named_point.Goals as goal

pub returns-clause-ok : goal.returns-clause-ok
returns-clause-ok c =
    named-all c.args.vars c.args.literals.now c.in_ok-values.values.items c.in_ok-point.point.items c.in_ok-values.ensures.ok (c.in_ok-point.ensures.ok ∙ c.deref.ensures.value)

pub returns-in_err-point-clause-refused : goal.returns-in_err-point-clause-refused
returns-in_err-point-clause-refused c =
    let p = err_from_is_err_and c.from_residual-in_err-point.result c.from_residual-in_err-point.ensures.1 in
    rw (p.1, p.2)
    (if_reason (reason_of c.in_err-point.field-0.0) _ _
    (λ e h. (h.0, named-missing c.args.vars c.args.literals.now c.in_ok-values.values.items c.in_ok-values.ensures.ok (subst (λ (vs : List (Option Bool)). Contains vs None) c.deref.ensures.value h.1)))
    c.in_err-point.ensures.refused)
