use Rattle.hrt_base.proofs.Fronts.{on_err}
use Rattle.hrt_solve.specs.Writing.{IsQuickText}
use Rattle.hrt_solve.proofs.Sending.{in_part, quick_text, solves}
use Rattle.hrt_solve.proofs.solving.quick.Goals as goal

pub returns-clause-solved : goal.returns-clause-solved
returns-clause-solved g c =
    solves _ _ c.in_ok-model.model c.in_ok-deriv.end _ _ _ c.in_ok-model.ensures.is c.in_ok-deriv.ensures.said c.in_ok-deriv.ensures.proof c.in_ok-save_both.ensures.sent

pub returns-in_err-save_both-clause-part : goal.returns-in_err-save_both-clause-part
returns-in_err-save_both-clause-part g c =
    on_err c.from_residual-in_err-save_both.result _
    (in_part _ IsQuickText _ c.in_ok-model.model _ _ _ c.in_ok-model.ensures.is (quick_text c.in_ok-model.model c.in_ok-deriv.end _ c.in_ok-deriv.ensures.said c.in_ok-deriv.ensures.proof) c.in_err-save_both.ensures.part)
