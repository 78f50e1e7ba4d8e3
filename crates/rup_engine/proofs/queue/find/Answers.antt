use Rattle.rup_engine.proofs.Queues.{unnumbered}
use Rattle.rup_engine.proofs.queue.find.Goals as goal

pub returns-clause-none : goal.returns-clause-none
returns-clause-none c = rw (c.copied.ensures, c.get.ensures.value) (unnumbered _ _ _ (c.requires.named c.args.id.0))
