use Rattle.std.proofs.Common.{inl}
use Rattle.hrt_base.proofs.Fronts.{on_err}
use Rattle.hrt_cli.proofs.BegunOutputs.{both_saved, saved_in_part}
use Rattle.hrt_cli.proofs.proving.save_bound.Goals as goal

pub returns-in_err-begin-clause-part : goal.returns-in_err-begin-clause-part
returns-in_err-begin-clause-part g c = on_err _ _ (inl c.in_err-begin.ensures.part)

pub returns-in_err-bound-clause-part : goal.returns-in_err-bound-clause-part
returns-in_err-bound-clause-part g c = on_err _ _ (saved_in_part _ _ _ _ _ _ _ _ c.in_ok-begin.ensures.begun c.in_err-bound.ensures.part)

pub returns-clause-saved : goal.returns-clause-saved
returns-clause-saved g c = let bounded = c.in_ok-bound.ensures.bounded in both_saved _ _ _ _ _ _ _ _ _ c.in_ok-begin.ensures.begun bounded.proof.is_proof bounded.proof.sent

pub returns-clause-numbers : goal.returns-clause-numbers
returns-clause-numbers g c = c.in_ok-bound.ensures.bounded.numbers
