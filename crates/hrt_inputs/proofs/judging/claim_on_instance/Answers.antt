use Rattle.hrt_inputs.proofs.ProofFiles.{proof_stops}
use Rattle.hrt_inputs.proofs.judging.claim_on_instance.Goals as goal

pub returns-in_err-verify-clause-stopped : goal.returns-in_err-verify-clause-stopped
returns-in_err-verify-clause-stopped g c = proof_stops _ _ _ _ _ _ _ _ c.requires c.in_ok-begin_read.ensures.opened c.in_err-verify.ensures.stopped c.from_residual-in_err-verify.ensures.1
