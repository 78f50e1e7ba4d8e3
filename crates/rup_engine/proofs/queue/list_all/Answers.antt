use Rattle.std.proofs.Common.{◌≡◌, ◌∙◌, ◌++◌, [], List, ap, sym, arith}
use Rattle.pb_rows.specs.Formula.{NumberedRow}
use Rattle.rup_engine.specs.Queue.{waiting_entries}
use Rattle.rup_engine.proofs.Queues.{none-left}
use Rattle.rup_engine.proofs.queue.list_all.Goals as goal

pub returns-clause-queue : goal.returns-clause-queue
returns-clause-queue c = c.new.ensures.queue c.loop-queue.listed.vars

pub returns-clause-rows : goal.returns-clause-rows
returns-clause-rows c =
    let none : waiting_entries c.loop-queue.queue.places.items ≡ [] =
    none-left c.loop-queue.queue.places.items c.loop-queue.queue.front (λ j h. c.loop-queue.invariant.queue.empty j h) (omega (arith, c.loop-queue-test.false, c.len.ensures)) in
    rw c.new.ensures.empty (ap (λ (x : List NumberedRow). c.loop-queue.listed.rows ++ x) (sym none) ∙ c.loop-queue.invariant.rows)
