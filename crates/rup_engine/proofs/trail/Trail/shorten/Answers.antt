use Rattle.std.proofs.Common.{arith}
use Rattle.rup_engine.proofs.Emptied.{shortened-all, shortened-more, shortened-nothing}
use Rattle.rup_engine.proofs.trail.Trail.shorten.Goals as goal

pub loop-self-init : goal.loop-self-init
loop-self-init c = shortened-nothing _ _

pub loop-self-preserved : goal.loop-self-preserved
loop-self-preserved c = shortened-more _ _ _ _ _ c.loop-self.invariant c.pop.ensures.last (omega (arith, c.loop-self-test.true, c.len.ensures.value))

pub returns : goal.returns
returns c = shortened-all _ _ _ c.loop-self.invariant (omega (arith, c.loop-self-test.false, c.len.ensures.value))
