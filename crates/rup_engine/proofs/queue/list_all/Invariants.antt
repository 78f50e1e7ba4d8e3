use Rattle.std.proofs.Common.{◌≡◌, ◌++◌, ◌-◌, length}
use Rattle.rup_engine.specs.Queue.{AreApart, IsQueue, waiting_entries}
use Rattle.rup_engine.proofs.queue.list_all.Given as goal

abbrev pub invariant-loop-queue : goal.invariant-loop-queue
invariant-loop-queue l = record {
  queue : IsQueue l.listed.vars l.queue;
  apart : AreApart l.listed.rows (waiting_entries l.queue.places.items);
  vars : l.listed.vars ≡ l.fn.listed.vars;
  rows : l.listed.rows ++ waiting_entries l.queue.places.items ≡ l.fn.listed.rows ++ waiting_entries l.fn.queue.places.items;
}

abbrev pub decreases-loop-queue : goal.decreases-loop-queue
decreases-loop-queue l = length l.queue.places.items - l.queue.front
