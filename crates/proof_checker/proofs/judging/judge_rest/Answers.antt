use Rattle.std.proofs.Common.{refl, sym, ◌∙◌}
use Rattle.proof_checker.proofs.Lasts.{blank-ends, claimed-early, early, end-ends, others-wrong}
use Rattle.proof_checker.proofs.judging.judge_rest.Goals as goal

pub returns-in_default : goal.returns-in_default
returns-in_default c f s = early f c.args.stage s c.args.rest.now c.in_default.not-Claimed c.in_default.not-Done

pub returns-then-is_blank_text : goal.returns-then-is_blank_text
returns-then-is_blank_text c f s = rw c.in-Done.is (blank-ends f c.in-Done.claim c.args.rest.now (sym c.is_blank_text.ensures ∙ c.if-is_blank_text.true))

pub returns-else-is_blank_text : goal.returns-else-is_blank_text
returns-else-is_blank_text c f s = rw c.in-Done.is (refl, others-wrong f c.in-Done.claim c.args.rest.now (sym c.is_blank_text.ensures ∙ c.if-is_blank_text.false))

pub returns-then-is_end_text : goal.returns-then-is_end_text
returns-then-is_end_text c f s = rw c.in-Claimed.is (end-ends f c.in-Claimed.claim c.args.rest.now (sym c.is_end_text.ensures ∙ c.if-is_end_text.true))

pub returns-else-is_end_text : goal.returns-else-is_end_text
returns-else-is_end_text c f s = rw c.in-Claimed.is (claimed-early f c.in-Claimed.claim c.args.rest.now (sym c.is_end_text.ensures ∙ c.if-is_end_text.false))
