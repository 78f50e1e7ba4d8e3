use Rattle.std.proofs.Common.{◌≡◌, ◌<◌, length}
use Rattle.std.specs.List.{All}
use Rattle.pair_reduction.specs.Flags.{AreStacked}
use Rattle.pair_reduction.proofs.waiting.Waiting.first.Given as goal

abbrev pub invariant-stack : goal.invariant-stack
invariant-stack l = record {
  same : l.self-inside.flags.items ≡ l.initial.self-inside.flags.items;
  stacked : AreStacked l.self-inside.flags.items l.self-inside.stack.items;
  within : All (λ n. n < length l.self-inside.flags.items) l.self-inside.stack.items;
}

abbrev pub decreases-stack : goal.decreases-stack
decreases-stack l = length l.self-inside.stack.items
