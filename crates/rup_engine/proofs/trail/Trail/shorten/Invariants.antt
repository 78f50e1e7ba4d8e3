use Rattle.std.proofs.Common.{length}
use Rattle.rup_engine.proofs.Emptied.{IsShortened}
use Rattle.rup_engine.proofs.trail.Trail.shorten.Given as goal

abbrev pub invariant-loop-self : goal.invariant-loop-self
invariant-loop-self l = IsShortened l.count l.fn.self l.self

abbrev pub decreases-loop-self : goal.decreases-loop-self
decreases-loop-self l = length l.self.literals
