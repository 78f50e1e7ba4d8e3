use Rattle.std.proofs.Common.{inr}
use Rattle.hrt_base.proofs.Fronts.{on_err}
use Rattle.hrt_cli.proofs.BegunOutputs.{model_fronts, model_unsealed}
use Rattle.hrt_cli.proofs.modeling.save_model.Goals as goal

pub returns-in_err-write_model-clause-part : goal.returns-in_err-write_model-clause-part
returns-in_err-write_model-clause-part g c = on_err _ _ (inr (model_fronts _ _ _ _ _ _ c.in_ok-begin_write.ensures.started c.in_err-write_model.ensures.part))

pub returns-in_err-seal-clause-part : goal.returns-in_err-seal-clause-part
returns-in_err-seal-clause-part g c = on_err _ _ (inr (model_unsealed _ _ _ _ _ _ _ c.in_ok-begin_write.ensures.started c.in_ok-write_model.ensures.sent c.in_err-seal.ensures.failed))
