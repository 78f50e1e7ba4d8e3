use Rattle.std.proofs.Common.{sym, subst, ℕ}
use Rattle.proof_rules.specs.States.{State}
use Rattle.proof_checker.specs.Kept.{IsKeptOver}
use Rattle.proof_checker.proofs.state.State.delete.Goals as goal

pub invariant_of-self : goal.invariant_of-self
invariant_of-self c =
    let s : State = record { live = c.remove_all.new.live.rows; next = c.self.inside.next; least = c.self.inside.least } in
    subst (λ (vars : ℕ). IsKeptOver vars s) (sym c.remove_all.ensures.vars) (c.remove_all.ensures.kept s c.self.invariant)
