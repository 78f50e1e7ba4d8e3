use Rattle.hrt_base.proofs.Fronts.{on_err}
use Rattle.hrt_solve.proofs.Sending.{seal_failed}
use Rattle.hrt_solve.proofs.saving.save_proof.Goals as goal

pub returns-in_err-seal-clause-part : goal.returns-in_err-seal-clause-part
returns-in_err-seal-clause-part g c = on_err c.from_residual-in_err-seal.result _ (seal_failed _ _ _ _ _ _ c.in_ok-send.ensures.sent c.in_err-seal.ensures.failed)
