use Rattle.capacity_bound.proofs.PutSums.{puts_both, puts_one}
use Rattle.capacity_bound.proofs.adding.+push_sum.Goals as goal

pub returns-then-operands-eq1 : goal.returns-then-operands-eq1
returns-then-operands-eq1 t c = puts_one c.args.operands.now c.args.steps.now.items c.push.new.self.items _ c.if-operands-eq1.true c.in_ok-push.ensures.items

pub returns : goal.returns
returns t c =
    puts_both c.args.operands.now c.split_at.result.0.now c.split_at.result.1.now c.args.steps.now.items c.push_sum.new.steps.items c.push_sum-2.new.steps.items c.push-2.new.self.items c.div_ceil.result c.split_at.ensures.front c.split_at.ensures.back
    c.in_ok-push_sum.ensures c.in_ok-push_sum-2.ensures c.in_ok-push-2.ensures.items
