use Rattle.std.proofs.Common.{◌-◌, arith, sym, ◌∙◌}
use Rattle.lazy_stability.specs.Candidates.{point_of_trail}
use Rattle.lazy_stability.proofs.Listed.{listed_next, listed_rising, listed_same}
use Rattle.lazy_stability.proofs.candidate.candidate_pairs.Goals as goal

pub loop-var-preserved-then-not-is_taken : goal.loop-var-preserved-then-not-is_taken
loop-var-preserved-then-not-is_taken c = listed_same c.args.inst.now (point_of_trail c.args.engine.now.trail) c.loop-var.var c.loop-var.pairs.items c.loop-var.auto.var (sym c.is_taken.ensures ∙ c.if-not-is_taken.true) c.loop-var.invariant

pub loop-var-preserved : goal.loop-var-preserved
loop-var-preserved c =
    listed_next c.args.inst.now (point_of_trail c.args.engine.now.trail) c.loop-var.var c.loop-var.pairs.items c.push.new.self.items (c.loop-var.auto.var, omega (arith, c.loop-var-test.true, c.pairs-var-end.ensures.count)) (sym c.is_taken.ensures ∙ c.if-not-is_taken.false)
    c.in_ok-push.ensures.items c.loop-var.invariant

pub returns-clause-rising : goal.returns-clause-rising
returns-clause-rising c = listed_rising (point_of_trail c.args.engine.now.trail) (c.loop-var.var - 1) _ c.loop-var.invariant.0
