use Rattle.std.proofs.Common.{List, sym, ap}
use Rattle.pb_rows.specs.Formula.{NumberedRow}
use Rattle.rup_engine.specs.Live.{LiveRows}
use Rattle.rup_engine.proofs.Changing.{numbered-by, without-none}
use Rattle.rup_engine.proofs.listed.Listed.remove.Goals as goal

pub returns-in_default-clause-rows : goal.returns-in_default-clause-rows
returns-in_default-clause-rows c =
    rw (← c.self.view_is)
    (ap (λ (rows : List NumberedRow). let l : LiveRows = record { vars = c.self.inside.progress.trail.vars; rows = rows } in l) (sym (without-none c.args.id.0 _ c.in_default.ensures.none)))

pub returns-clause-ok : goal.returns-clause-ok
returns-clause-ok c = rw (← c.self.view_is) (sym (numbered-by c.args.id.0 _ c.in-Some.place c.in-Some.ensures.some))
