use Rattle.hrt_solve.proofs.SearchEnds.{first_ends, first_proved}
use Rattle.hrt_solve.proofs.searching.finish.Goals as goal

pub returns-then-started-clause-said : goal.returns-then-started-clause-said
returns-then-started-clause-said c =
    first_ends c.args.budget c.args.model.now c.args.started c.args.deriv.now c.conclude_first.new.deriv c.in_ok-end.end c.requires.started c.if-started.true c.in_ok-end.ensures.said c.in_ok-end.ensures.proof

pub returns-then-started-clause-proof : goal.returns-then-started-clause-proof
returns-then-started-clause-proof c =
    first_proved c.args.budget c.args.model.now c.args.started c.args.deriv.now c.conclude_first.new.deriv c.in_ok-end.end c.requires.started c.if-started.true c.in_ok-end.ensures.said c.in_ok-end.ensures.proof c.in_ok-end.ensures.lazy
