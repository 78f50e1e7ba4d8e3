use Rattle.std.proofs.Common.{◌≡◌, subst, true}
use Rattle.pb_propagate.specs.Engines.{is_due_literal, is_due_row}
use Rattle.pb_propagate.specs.Visits.{IsDue}
use Rattle.conflict_cuts.proofs.Steps.{due-below, visits-literal, visits-row}
use Rattle.conflict_cuts.proofs.visiting.visit.Goals as goal

pub visit_row-requires-clause-kept : goal.visit_row-requires-clause-kept
visit_row-requires-clause-kept g c =
    let due : is_due_row c.in-Row.place.0 c.args.engine.now ≡ true = subst (IsDue c.args.engine.now) c.in-Row.is c.requires.due in
    due-below c.args.engine.now c.requires.order c.requires.below c.in-Row.place.0 due

pub returns-in-Row : goal.returns-in-Row
returns-in-Row g c =
    let due : is_due_row c.in-Row.place.0 c.args.engine.now ≡ true = subst (IsDue c.args.engine.now) c.in-Row.is c.requires.due in
    visits-row c.args.engine.now c.visit_row.new.self c.in-Row.place.0 c.visit_row.result c.requires.order c.requires.below due c.visit_row.ensures.does

pub returns-in-Literal : goal.returns-in-Literal
returns-in-Literal g c =
    let due : is_due_literal c.in-Literal.lit c.args.engine.now ≡ true = subst (IsDue c.args.engine.now) c.in-Literal.is c.requires.due in
    visits-literal c.args.engine.now c.visit_literal.new.self c.in-Literal.lit c.visit_literal.result c.requires.order c.requires.below due c.visit_literal.ensures.sound c.visit_literal.ensures.does
