use Rattle.conflict_cuts.specs.Forgetting.{AreBetween}
use Rattle.conflict_cuts.proofs.forgetting.numbers_between.Given as goal

abbrev pub invariant-loop-n : goal.invariant-loop-n
invariant-loop-n l = AreBetween l.first l.n l.ids.items
