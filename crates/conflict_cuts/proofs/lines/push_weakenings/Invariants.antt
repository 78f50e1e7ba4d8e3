use Rattle.std.proofs.Common.{◌≡◌, ◌++◌, take}
use Rattle.conflict_cuts.specs.Lines.{weakenings}
use Rattle.conflict_cuts.proofs.lines.push_weakenings.Given as goal

abbrev pub invariant-loop-v : goal.invariant-loop-v
invariant-loop-v l = l.steps.items ≡ l.fn.steps.items ++ weakenings (take l.v-index l.vars)
