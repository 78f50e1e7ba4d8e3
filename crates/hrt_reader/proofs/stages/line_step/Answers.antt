use Rattle.std.proofs.Common.{subst}
use Rattle.hrt_reader.specs.declared.stages.Stage.{Stage}
use Rattle.hrt_text.specs.Views.{texts}
use Rattle.hrt_reader.specs.Stages.{IsStage}
use Rattle.hrt_reader.proofs.stages.line_step.Goals as goal

pub returns-in-Start : goal.returns-in-Start
returns-in-Start c = λ before after h r k last. c.start_step.ensures before after (texts c.args.residents.now.keys) (texts c.args.hospitals.now.keys) (subst (λ (s : Stage). IsStage s before) c.in-Start.is h) r k

pub returns-in-Ended : goal.returns-in-Ended
returns-in-Ended c = λ before after h r k last. c.ended_step.ensures before after (texts c.args.residents.now.keys) (texts c.args.hospitals.now.keys) (subst (λ (s : Stage). IsStage s before) c.in-Ended.is h) r k
