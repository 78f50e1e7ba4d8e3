use Rattle.hrt_inputs.proofs.ProofFiles.{proof_stops}
use Rattle.hrt_inputs.proofs.judging.claim_on_formula.Goals as goal

pub returns-in_err-check-clause-stopped : goal.returns-in_err-check-clause-stopped
returns-in_err-check-clause-stopped g c = proof_stops _ _ _ _ _ _ _ _ c.requires.idle c.in_ok-begin_read.ensures.opened c.in_err-check.ensures.stopped c.from_residual-in_err-check.ensures.1
