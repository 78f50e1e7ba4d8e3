use Rattle.std.proofs.Common.{◌∙◌, sym, ap, subst}
use Rattle.hrt_text.specs.Text.{Row, tokens}
use Rattle.hrt_text.specs.Grammar.{is_blank}
use Rattle.hrt_reader.specs.Stages.{StepsTo}
use Rattle.hrt_reader.specs.declared.stages.Stage.TheVariants.{Start}
use Rattle.hrt_reader.specs.declared.stages.Step.TheVariants.{Next}
use Rattle.hrt_reader.proofs.LineSteps.{start_blank, start_header, start_other}
use Rattle.hrt_reader.proofs.stages.start_step.Goals as goal

pub returns-in-None : goal.returns-in-None
returns-in-None c = λ before after rs hs h r k. subst (λ (row : Row). StepsTo before row after rs hs (Next Start)) (sym c.in-None.ensures.none) (start_blank before after rs hs h r k)

pub returns-then-is_header : goal.returns-then-is_header
returns-then-is_header c = λ before after rs hs h r k. start_header before (tokens c.args.line.now) after rs hs h (ap is_blank c.in-Some.ensures.some) (sym c.is_header.ensures ∙ c.if-is_header.true) r k

pub returns-else-is_header : goal.returns-else-is_header
returns-else-is_header c = λ before after rs hs h r k. (ap is_blank c.in-Some.ensures.some, start_other before (tokens c.args.line.now) after h (ap is_blank c.in-Some.ensures.some) (sym c.is_header.ensures ∙ c.if-is_header.false))
