use Rattle.std.proofs.Common.{arith}
use Rattle.capacity_bound.proofs.Counted.{posts_more}
use Rattle.capacity_bound.proofs.counts.posts_left.Goals as goal

pub overflow_add-posts : goal.overflow_add-posts
overflow_add-posts c = record { fits = omega (arith, c.loop-h.invariant.1, c.loop-h-test.true, c.hospitals-h-end.ensures.few, c.min-posts.ensures, c.capacity-capacity.ensures.few) }

pub loop-h-preserved : goal.loop-h-preserved
loop-h-preserved c = (
  posts_more c.args.inst.now c.args.gone.now c.loop-h.h c.loop-h.posts c.capacity-capacity.result c.count_left-left.result c.min-posts.result c.pairs_of_hospital.result.now
      c.pairs_of_hospital.ensures.same c.pairs_of_hospital.ensures.distinct c.count_left-left.ensures c.capacity-capacity.ensures.value c.min-posts.ensures c.loop-h.invariant.0,
  omega (arith, c.loop-h.invariant.1, c.min-posts.ensures, c.capacity-capacity.ensures.few),
)
