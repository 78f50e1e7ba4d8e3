use Rattle.std.proofs.Common.{arith}
use Rattle.pb_search.proofs.Deciding.{full_trail}
use Rattle.pb_search.proofs.quiet.pick.Goals as goal

pub returns-clause-full : goal.returns-clause-full
returns-clause-full c = full_trail c.args.engine.now c.level-level.ensures.order (λ v some within. c.loop-k.invariant v some (omega (arith, within, c.loop-k-test.false, c.vars-k-end.ensures)))
