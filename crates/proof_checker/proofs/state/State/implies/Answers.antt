use Rattle.proof_checker.proofs.state.State.implies.Goals as goal

pub returns-clause-is : goal.returns-clause-is
returns-clause-is c = rw (← c.self.view_is, c.is_some.ensures) c.in_ok-used.ensures.implied
