use Rattle.hrt_solve.proofs.Sending.{bounds}
use Rattle.hrt_solve.proofs.bounding.bound.Goals as goal

pub returns-clause-bounded : goal.returns-clause-bounded
returns-clause-bounded g c =
    bounds _ _ c.in_ok-model.model c.in_ok-deriv.end _ _ _ c.in_ok-model.ensures.is c.in_ok-deriv.ensures.numbers c.in_ok-deriv.ensures.most c.in_ok-deriv.ensures.proof c.in_ok-save_both.ensures.sent
