use Rattle.propagation.proofs.Following.{follows-falsified}
use Rattle.rup_engine.proofs.Taking.{own}
use Rattle.rup_engine.proofs.one_row.advance.Goals as goal

pub returns-then-sum-degree-clause-sound : goal.returns-then-sum-degree-clause-sound
returns-then-sum-degree-clause-sound c = record { follows = λ rows given h below f. follows-falsified rows given _ _ c.args.sum h below c.if-sum-degree.true f }

pub propagate-requires-clause-within : goal.propagate-requires-clause-within
propagate-requires-clause-within c = own c.args.terms.now
