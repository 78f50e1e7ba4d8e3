use Rattle.std.proofs.Common.{ap, arith}
use Rattle.pb_rows.specs.Terms.{coef_sum}
use Rattle.pb_rows.specs.Closure.{none}
use Rattle.pb_rows.proofs.Order.{rising_positive}
use Rattle.rup_engine.proofs.Picking.{steady-bound}
use Rattle.rup_engine.proofs.adding.is_tight.Goals as goal

pub total-sum-requires-clause-positive : goal.total-sum-requires-clause-positive
total-sum-requires-clause-positive c = rw c.terms-terms.ensures.terms (rising_positive 0 _ c.terms-terms.ensures.normal.rising)

pub returns : goal.returns
returns c = λ _. steady-bound none _ _ _ _ _ c.requires (omega (arith, c.if-sum-slot.false, c.total-sum.ensures, ap coef_sum c.terms-terms.ensures.terms))
