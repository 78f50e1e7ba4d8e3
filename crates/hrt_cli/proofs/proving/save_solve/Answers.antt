use Rattle.std.proofs.Common.{inl}
use Rattle.hrt_base.proofs.Fronts.{on_err}
use Rattle.hrt_cli.proofs.BegunOutputs.{both_saved, saved_in_part}
use Rattle.hrt_cli.proofs.proving.save_solve.Goals as goal

pub returns-in_err-begin-clause-part : goal.returns-in_err-begin-clause-part
returns-in_err-begin-clause-part g c = on_err _ _ (inl c.in_err-begin.ensures.part)

pub returns-in_err-solve-clause-part : goal.returns-in_err-solve-clause-part
returns-in_err-solve-clause-part g c = on_err _ _ (saved_in_part _ _ _ _ _ _ _ _ c.in_ok-begin.ensures.begun c.in_err-solve.ensures.part)

pub returns-clause-said : goal.returns-clause-said
returns-clause-said g c = c.in_ok-solve.ensures.solved.said

pub returns-clause-saved : goal.returns-clause-saved
returns-clause-saved g c = let solved = c.in_ok-solve.ensures.solved in both_saved _ _ _ _ _ _ _ _ _ c.in_ok-begin.ensures.begun solved.is_proof solved.sent
