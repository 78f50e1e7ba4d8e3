use Rattle.proof_checker.proofs.claims.shows.Goals as goal

pub returns-in-Bounds-clause-shown : goal.returns-in-Bounds-clause-shown
returns-in-Bounds-clause-shown c = rw c.in-Bounds.is c.shows_bounds.ensures.shown

pub returns-in-Unsat-clause-shown : goal.returns-in-Unsat-clause-shown
returns-in-Unsat-clause-shown c = rw c.in-Unsat.is c.shows_none.ensures.shown
