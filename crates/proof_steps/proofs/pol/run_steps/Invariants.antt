use Rattle.std.proofs.Common.{◌≡◌, drop, []}
use Rattle.proof_rules.specs.Pol.{run_steps}
use Rattle.proof_steps.proofs.pol.run_steps.Given as goal

abbrev pub invariant-loop-step : goal.invariant-loop-step
invariant-loop-step g l =
    run_steps l.vars (g.R.LiveRows.rows l.live) l.steps [] ≡ run_steps l.vars (g.R.LiveRows.rows l.live) (drop l.step-index l.steps) l.stack
