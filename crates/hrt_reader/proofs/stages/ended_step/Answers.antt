use Rattle.std.proofs.Common.{sym, ap, subst}
use Rattle.hrt_text.specs.Text.{Row, tokens}
use Rattle.hrt_text.specs.Grammar.{is_blank}
use Rattle.hrt_reader.specs.Stages.{StepsTo}
use Rattle.hrt_reader.specs.declared.stages.Stage.TheVariants.{Ended}
use Rattle.hrt_reader.specs.declared.stages.Step.TheVariants.{Next}
use Rattle.hrt_reader.proofs.LineSteps.{ended_blank, ended_other}
use Rattle.hrt_reader.proofs.stages.ended_step.Goals as goal

pub returns-in-None : goal.returns-in-None
returns-in-None c = λ before after rs hs h r k. subst (λ (row : Row). StepsTo before row after rs hs (Next Ended)) (sym c.in-None.ensures.none) (ended_blank before after rs hs h.0 h.1 r k)

pub returns-in-Some : goal.returns-in-Some
returns-in-Some c = λ before after rs hs h r k. (ap is_blank c.in-Some.ensures.some, ended_other before (tokens c.args.line.now) after h.0 h.1 (ap is_blank c.in-Some.ensures.some))
