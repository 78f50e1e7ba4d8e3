use Rattle.std.proofs.Common.{subst, ℕ}
use Rattle.std.specs.List.{All}
use Rattle.propagation.specs.Following.{IsOver}
use Rattle.proof_rules.specs.States.{live_rows}
use Rattle.proof_checker.specs.Kept.{Kept}
use Rattle.proof_checker.proofs.Covering.{pol-over}
use Rattle.proof_checker.proofs.state.State.row_of_steps.Goals as goal

pub returns-in-Ok-clause-over : goal.returns-in-Ok-clause-over
returns-in-Ok-clause-over c =
    pol-over c.args.vars c.args.self.now.state.live c.args.steps.now c.in-Ok.row c.requires.made
    (subst (λ (vars : ℕ). All (IsOver vars) (live_rows c.args.self.now.state)) c.requires.vars (subst (λ (k : Kept). All (IsOver k.vars) (live_rows k.state)) c.self.view_is c.self.invariant.over))
    c.in-Ok.ensures.ok
