use mir.Val.{SFits}
use Rattle.std.proofs.Common.{◌-ℤ◌, ℤ, pos, subst, sym}
use Rattle.std.specs.Int.{w128}
use Rattle.std.proofs.lemmas.Int.{to_z-of_z}
use Rattle.proof_steps.proofs.Values.{coef_fits, minus_fits, next_minus}
use Rattle.proof_steps.proofs.solution.minus_terms.Goals as goal

pub overflow_sub-term : goal.overflow_sub-term
overflow_sub-term c =
    subst (λ (z : ℤ). SFits w128 (pos 0 -ℤ z)) (sym (to_z-of_z w128 _ (coef_fits c.args.terms.now c.loop-term.term-index _ c.loop-term-test.true c.requires)))
    (minus_fits c.args.terms.now c.loop-term.term-index _ c.loop-term-test.true c.requires)

pub loop-term-preserved : goal.loop-term-preserved
loop-term-preserved c =
    next_minus c.args.terms.now c.loop-term.minus.items c.push.new.self.items c.loop-term.term-index _ c.loop-term-test.true c.requires c.loop-term.invariant c.in_ok-push.ensures.items
