use Rattle.std.proofs.lemmas.Result.{IfErr-weaker}
use Rattle.proof_checker.proofs.stage.next_stage.Goals as goal

pub returns-in-Start-clause-refused : goal.returns-in-Start-clause-refused
returns-in-Start-clause-refused c = rw c.in-Start.is (IfErr-weaker c.after_start.result _ _ (λ fault h. h c.args.formula.now c.args.state.now.state) c.after_start.ensures.refused)

pub returns-in-Headed-clause-refused : goal.returns-in-Headed-clause-refused
returns-in-Headed-clause-refused c = rw c.in-Headed.is (IfErr-weaker c.after_headed.result _ _ (λ fault h. h c.args.state.now.state) c.after_headed.ensures.refused)

pub returns-in-Claimed-clause-refused : goal.returns-in-Claimed-clause-refused
returns-in-Claimed-clause-refused c = rw c.in-Claimed.is (IfErr-weaker c.after_claimed.result _ _ (λ fault h. h c.args.formula.now c.args.state.now.state) c.after_claimed.ensures.refused)

pub returns-in-Done-clause-refused : goal.returns-in-Done-clause-refused
returns-in-Done-clause-refused c = rw c.in-Done.is (IfErr-weaker c.after_done.result _ _ (λ fault h. h c.args.formula.now c.args.state.now.state) c.after_done.ensures.refused)
