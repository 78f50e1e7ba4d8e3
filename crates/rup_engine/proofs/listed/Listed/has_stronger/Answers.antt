use Rattle.rup_engine.proofs.listed.Listed.has_stronger.Goals as goal

pub returns : goal.returns
returns c = rw (← c.self.view_is) (rw c.deref.ensures.value at c.any_as_strong.ensures)
