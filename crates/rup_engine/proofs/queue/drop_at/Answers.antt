use Rattle.std.proofs.Common.{None, refl}
use Rattle.rup_engine.proofs.Queues.{dropped, entries_of-removed}
use Rattle.rup_engine.proofs.Changing.{renames}
use Rattle.rup_engine.proofs.queue.drop_at.Goals as goal

pub returns-clause-queue : goal.returns-clause-queue
returns-clause-queue c =
    dropped _ _ _ c.requires.queue c.args.place c.args.id.0 c.requires.place c.requires.has refl (renames _ _ c.args.id.0 None c.remove.ensures.updates) refl

pub returns-clause-entries : goal.returns-clause-entries
returns-clause-entries c =
    entries_of-removed c.args.queue.now.places.items c.args.place c.args.id.0 c.requires.has (λ j h. c.requires.queue.distinct j c.args.place c.args.id.0 h c.requires.has)
