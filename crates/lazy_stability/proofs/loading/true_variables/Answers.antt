use Rattle.std.proofs.Common.{◌∷◌, ◌++◌, List, ℕ, [], sym, ap, ◌∙◌}
use Rattle.lazy_stability.specs.Candidates.{point_of_trail}
use Rattle.lazy_stability.proofs.Written.{fails, passes}
use Rattle.lazy_stability.proofs.loading.true_variables.Goals as goal

pub loop-var-preserved : goal.loop-var-preserved
loop-var-preserved c =
    c.in_ok-push.ensures.ok ∙ ap (λ (xs : List ℕ). xs ++ c.loop-var.var ∷ []) c.loop-var.invariant
    ∙ sym (passes (point_of_trail c.args.engine.now.trail) c.loop-var.var c.loop-var.auto.var (sym c.is_taken.ensures ∙ c.if-not-is_taken.false))

pub loop-var-preserved-then-not-is_taken : goal.loop-var-preserved-then-not-is_taken
loop-var-preserved-then-not-is_taken c =
    c.loop-var.invariant ∙ sym (fails (point_of_trail c.args.engine.now.trail) c.loop-var.var c.loop-var.auto.var (sym c.is_taken.ensures ∙ c.if-not-is_taken.true))
