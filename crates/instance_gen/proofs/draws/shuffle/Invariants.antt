use Rattle.std.proofs.Common.{◌≡◌, ◌-◌, length}
use Rattle.instance_gen.specs.Draws.{shuffled}
use Rattle.instance_gen.specs.Swaps.{AreSwaps}
use Rattle.instance_gen.proofs.draws.shuffle.Given as goal

abbrev pub invariant-loop-place : goal.invariant-loop-place
invariant-loop-place l = record {
  same : length l.numbers ≡ length l.fn.numbers;
  whole : shuffled (l.steps - l.place) l.place l.numbers l.words ≡ shuffled l.steps 0 l.fn.numbers l.fn.words;
  noted : length l.places.items ≡ l.place;
  swaps : AreSwaps l.fn.numbers l.places.items l.numbers;
}
