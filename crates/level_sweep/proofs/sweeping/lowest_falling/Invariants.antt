use Rattle.std.proofs.Common.{drop, take}
use Rattle.level_sweep.specs.Sweeps.{IsSweptDown}
use Rattle.level_sweep.proofs.sweeping.lowest_falling.Given as goal

abbrev pub invariant-loop-s : goal.invariant-loop-s
invariant-loop-s l = IsSweptDown l.degree l.stands (take l.s-index l.stands) (drop l.s-index l.stands) l.sweep
