use Rattle.std.proofs.Common.{rules, arith, inl}
use Rattle.search_guides.proofs.LeastRanked.{first_ranked, none_ranked}
use Rattle.search_guides.proofs.ranked.first_free.Goals as goal

pub returns-then-is_free : goal.returns-then-is_free
returns-then-is_free c = λ lists o. inl (first_ranked lists c.args.engine.now c.args.order.now c.loop-entry.entry-index _ c.loop-entry-test.true c.loop-entry.invariant (search rules) o)

pub returns : goal.returns
returns c = λ lists o. none_ranked lists c.args.engine.now c.args.order.now c.least.result c.loop-entry.entry-index (omega arith) (omega arith) c.loop-entry.invariant c.least.ensures o
