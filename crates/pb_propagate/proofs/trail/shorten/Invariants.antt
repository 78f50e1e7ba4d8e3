use Rattle.std.proofs.Common.{◌≡◌, ◌≤◌, length}
use Rattle.std.specs.Prelude.{vec_capacity}
use Rattle.propagation.specs.Tables.{IsTable}
use Rattle.pb_propagate.proofs.Backs.{IsFront}
use Rattle.pb_propagate.proofs.trail.shorten.Given as goal

abbrev pub invariant-loop-literals : goal.invariant-loop-literals
invariant-loop-literals l = record {
  table : IsTable l.values.items l.literals.items;
  front : IsFront l.fn.literals.items l.literals.items;
  within : l.count ≤ length l.literals.items;
  same : length l.values.items ≡ length l.fn.values.items;
  capacity : vec_capacity l.literals ≡ vec_capacity l.fn.literals;
}

abbrev pub decreases-loop-literals : goal.decreases-loop-literals
decreases-loop-literals l = length l.literals.items
