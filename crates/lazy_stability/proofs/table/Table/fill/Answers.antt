use Rattle.std.proofs.Common.{List, ℕ, sym, ◌∙◌, subst}
use Rattle.lazy_stability.specs.Candidates.{point_of_trail}
use Rattle.lazy_stability.specs.Table.{ArePosts}
use Rattle.lazy_stability.proofs.Written.{fails, passes}
use Rattle.lazy_stability.proofs.table.Table.fill.Goals as goal

pub loop-taken-preserved : goal.loop-taken-preserved
loop-taken-preserved c = subst (λ (m : List ℕ). ArePosts c.args.inst.now m c.take.new.self.best.items c.take.new.self.worst.items c.take.new.self.free.items)
    (sym (passes (point_of_trail c.args.engine.now.trail) c.loop-taken.taken c.loop-taken.auto.taken (sym c.is_taken.ensures ∙ c.if-not-is_taken.false))) (c.take.ensures _ c.loop-taken.invariant)

pub loop-taken-preserved-then-not-is_taken : goal.loop-taken-preserved-then-not-is_taken
loop-taken-preserved-then-not-is_taken c = subst (λ (m : List ℕ). ArePosts c.args.inst.now m c.loop-taken.self.best.items c.loop-taken.self.worst.items c.loop-taken.self.free.items)
    (sym (fails (point_of_trail c.args.engine.now.trail) c.loop-taken.taken c.loop-taken.auto.taken (sym c.is_taken.ensures ∙ c.if-not-is_taken.true))) c.loop-taken.invariant
