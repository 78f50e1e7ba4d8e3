use Rattle.std.proofs.Common.{subst, sym, ◌∙◌}
use Rattle.std.specs.List.{All}
use Rattle.pb_rows.specs.Formula.{Formula}
use Rattle.propagation.specs.Following.{IsOver}
use Rattle.proof_checker.proofs.Living.{kept-first}
use Rattle.proof_checker.proofs.state.State.new.Goals as goal

pub invariant_of-result : goal.invariant_of-result
invariant_of-result c =
    kept-first c.formula.inside.vars c.len.result c.formula.inside.rows.items c.deref.result.now c.in_ok-live.live c.in_ok-live.ensures.live c.deref.ensures.value (c.len.ensures ∙ sym c.deref.ensures.len)
    (subst (λ (f : Formula). All (IsOver f.vars) f.rows) (sym c.formula.view_is) c.requires.rows)
