use Rattle.std.proofs.Common.{◌≡◌, ◌+◌, ◌-◌, Some, subst, arith, ℕ}
use Rattle.std.specs.Prelude.{slice_get}
use Rattle.stability_model.specs.Model.{rows}
use Rattle.opb_text.proofs.Taking.{taken_on}
use Rattle.opb_text.proofs.formula.rows_of.Goals as goal

pub loop-k-preserved : goal.loop-k-preserved
loop-k-preserved c =
    let back : c.loop-k.k + 1 - 1 ≡ c.loop-k.k = omega arith in
    let at = subst (λ (k : ℕ). slice_get (rows c.args.model.now) k ≡ Some c.in_ok-row.field-0) back c.in_ok-row.ensures in
    taken_on c.loop-k.made.items _ (rows c.args.model.now) c.loop-k.k _ c.loop-k.invariant at c.in_ok-push.ensures.items
