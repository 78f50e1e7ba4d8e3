use Rattle.hrt_base.proofs.Fronts.{none_front, on_err}
use Rattle.opb_text.proofs.writing.write_objective.Goals as goal

pub returns-in_err-text-clause-part : goal.returns-in_err-text-clause-part
returns-in_err-text-clause-part g c = on_err _ _ (none_front _ _ _ _)
