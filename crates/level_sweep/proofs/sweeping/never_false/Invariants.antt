use Rattle.std.proofs.Common.{◌≡◌, take}
use Rattle.level_sweep.specs.Sweeps.{never_false}
use Rattle.level_sweep.proofs.sweeping.never_false.Given as goal

abbrev pub invariant-loop-s : goal.invariant-loop-s
invariant-loop-s l = l.sum ≡ never_false (take l.s-index l.stands)
