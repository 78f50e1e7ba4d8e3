use Rattle.std.proofs.Common.{◌∙◌, sym}
use Rattle.pb_search.proofs.Openings.{some_more}
use Rattle.pb_search.proofs.opening.hold_unit.Goals as goal

pub hold-requires-clause-can : goal.hold-requires-clause-can
hold-requires-clause-can c = c.requires.can c.in-Some.id (sym c.unit_row.ensures ∙ c.in-Some.is)

pub returns-clause-held : goal.returns-clause-held
returns-clause-held c numbers has = some_more c.args.deriv.now c.args.engine.now c.hold.new.engine numbers _ c.in-Some.id (sym c.unit_row.ensures ∙ c.in-Some.is) c.in_ok-hold.ensures.held has
