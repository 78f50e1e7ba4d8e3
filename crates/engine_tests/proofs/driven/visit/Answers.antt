use Rattle.engine_tests.proofs.Below.{below-literal, below-row, place-below}
use Rattle.engine_tests.proofs.driven.visit.Goals as goal

pub visit_row-requires-clause-kept : goal.visit_row-requires-clause-kept
visit_row-requires-clause-kept g c = place-below c.args.engine.now c.requires c.in-Some-Row.place.0

pub returns-in-Some-Row : goal.returns-in-Some-Row
returns-in-Some-Row g c = below-row c.args.engine.now c.visit_row.new.self c.in-Some-Row.place.0 c.visit_row.result c.requires c.visit_row.ensures.does

pub returns-in-Some-Literal : goal.returns-in-Some-Literal
returns-in-Some-Literal g c = below-literal c.args.engine.now c.visit_literal.new.self c.in-Some-Literal.lit c.visit_literal.result c.requires c.visit_literal.ensures.does
