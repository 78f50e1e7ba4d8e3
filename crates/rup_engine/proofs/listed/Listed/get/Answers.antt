use Rattle.std.proofs.Common.{sym}
use Rattle.rup_engine.proofs.Changing.{row_of-none}
use Rattle.rup_engine.proofs.listed.Listed.get.Goals as goal

pub returns-in-None : goal.returns-in-None
returns-in-None c = rw (← c.self.view_is) (sym (row_of-none c.args.id.0 _ c.in-None.ensures.none))

pub row_at-requires-clause-only : goal.row_at-requires-clause-only
row_at-requires-clause-only c =
    rw c.deref.ensures.value (λ j h. c.self.invariant.ready.kept.slots.distinct j c.in-Some.place c.args.id.0 h c.in-Some.ensures.some)
