use Rattle.rup_engine.proofs.listed.Listed.closure.Goals as goal

pub returns-clause-refuted : goal.returns-clause-refuted
returns-clause-refuted c = rw (← c.self.view_is) c.close-answer.ensures.refuted

pub returns-clause-closed : goal.returns-clause-closed
returns-clause-closed c = rw (← c.self.view_is) c.close-answer.ensures.closed
