use Rattle.std.proofs.Common.{ap, ◌∙◌}
use Rattle.stability_model.specs.Model.{formula}
use Rattle.hrt_solve.proofs.Judging.{says}
use Rattle.hrt_solve.proofs.checking.verify.Goals as goal

pub returns-clause-sound : goal.returns-clause-sound
returns-clause-sound g c = says _ _ c.args.inst.now _ _ _ (c.in_ok-formula.ensures.is ∙ ap formula c.in_ok-model.ensures.is) c.check.ensures.accepted
