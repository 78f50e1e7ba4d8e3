use Rattle.std.proofs.Common.{◌≡◌, ◌≤◌, ℕ, List, length, take}
use Rattle.instance_gen.specs.Swaps.{AreSwaps, swapped}
use Rattle.instance_gen.proofs.draws.swap_back.Given as goal

abbrev pub invariant-loop-left : goal.invariant-loop-left
invariant-loop-left l = record {
  same : length l.numbers ≡ length l.fn.numbers;
  few : l.left ≤ length l.places;
  back : (before : List ℕ) → AreSwaps before l.places l.fn.numbers → l.numbers ≡ swapped 0 (take l.left l.places) before;
}

abbrev pub decreases-loop-left : goal.decreases-loop-left
decreases-loop-left l = l.left
