use Rattle.std.proofs.Common.{◌∙◌, ap, arith, refl}
use Rattle.rup_engine.specs.Queue.{waiting_entries}
use Rattle.rup_engine.proofs.Queues.{entries_of-more, opened, unchanged}
use Rattle.rup_engine.proofs.queue.open.Goals as goal

pub returns-in_err-push-clause-queue : goal.returns-in_err-push-clause-queue
returns-in_err-push-clause-queue c = unchanged _ _ _ c.requires c.in_err-push.ensures.items refl refl

pub returns-clause-queue : goal.returns-clause-queue
returns-clause-queue c = opened _ _ _ c.requires c.in_ok-push.ensures.items refl refl

pub returns-clause-entries : goal.returns-clause-entries
returns-clause-entries c = ap waiting_entries c.in_ok-push.ensures.items ∙ entries_of-more c.args.queue.now.places.items

pub returns-clause-front : goal.returns-clause-front
returns-clause-front c = omega (arith, c.requires.within, c.len-place.ensures)
