use Rattle.std.proofs.Common.{◌∙◌, max, sym, ap}
use Rattle.opb_text.proofs.Variables.{greatest_more}
use Rattle.opb_text.proofs.limits.greatest_variable.Goals as goal

pub loop-term-preserved : goal.loop-term-preserved
loop-term-preserved c = c.max-greatest.ensures ∙ ap (max _) c.loop-term.invariant ∙ sym (greatest_more c.args.terms.now c.loop-term.term-index _ c.loop-term-test.true)
