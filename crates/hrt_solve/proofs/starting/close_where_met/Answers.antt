use Rattle.hrt_solve.proofs.FirstLogged.{asks_live, claims_closed, claims_first, closed_unlearned, top_live}
use Rattle.hrt_solve.proofs.starting.close_where_met.Goals as goal

pub close-requires-clause-bound : goal.close-requires-clause-bound
close-requires-clause-bound c = top_live c.args.model.now c.args.started.now c.args.deriv.now c.requires c.in-Some.bound c.in-Some.is c.if-started.false

pub close-requires-clause-larger : goal.close-requires-clause-larger
close-requires-clause-larger c = asks_live c.args.model.now c.args.started.now c.args.deriv.now c.requires

pub returns-in_default-clause-can : goal.returns-in_default-clause-can
returns-in_default-clause-can c = claims_first c.args.model.now c.args.started.now c.args.deriv.now c.requires

pub returns-then-started-clause-can : goal.returns-then-started-clause-can
returns-then-started-clause-can c = claims_first c.args.model.now c.args.started.now c.args.deriv.now c.requires

pub returns-clause-can : goal.returns-clause-can
returns-clause-can c = claims_closed c.args.model.now c.args.started.now c.args.deriv.now c.requires c.in-Some.bound c.in_ok-close.field-0 c.close.new.deriv c.in-Some.is c.in_ok-close.ensures.closed

pub returns-clause-unlearned : goal.returns-clause-unlearned
returns-clause-unlearned c = closed_unlearned c.args.model.now c.args.started.now c.args.deriv.now c.requires c.in-Some.bound c.in_ok-close.field-0 c.close.new.deriv c.in-Some.is c.in_ok-close.ensures.closed
