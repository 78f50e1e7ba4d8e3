use Rattle.std.proofs.Common.{Some, arith, refl}
use Rattle.rup_engine.proofs.Queues.{entries_of-filled, filled}
use Rattle.rup_engine.proofs.Changing.{renames}
use Rattle.rup_engine.proofs.queue.fill.Goals as goal

pub returns-clause-queue : goal.returns-clause-queue
returns-clause-queue c =
    filled _ _ _ c.requires.queue c.args.place c.args.entry (omega (arith, c.requires.place)) c.requires.empty c.requires.front c.requires.fresh c.requires.over refl
    (renames _ _ c.args.entry.number.0 (Some c.args.place) c.in_ok-insert.ensures.updates) refl

pub returns-clause-ok : goal.returns-clause-ok
returns-clause-ok c = entries_of-filled c.args.queue.now.places.items c.args.place c.args.entry c.requires.place c.requires.empty
