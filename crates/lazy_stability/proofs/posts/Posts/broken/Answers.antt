use Rattle.std.proofs.Common.{length}
use Rattle.lazy_stability.specs.Candidates.{candidate}
use Rattle.lazy_stability.proofs.Blocking.{none_blocks, none_written, written_block}
use Rattle.lazy_stability.proofs.posts.Posts.broken.Goals as goal

pub returns-clause-blocking : goal.returns-clause-blocking
returns-clause-blocking c = written_block c.args.inst.now (candidate c.args.inst.now c.args.engine.now) _ (length c.args.out.now) c.broken.ensures.pairs

pub returns-clause-none : goal.returns-clause-none
returns-clause-none c = (
  none_written c.args.inst.now (candidate c.args.inst.now c.args.engine.now) (length c.args.out.now) c.broken.result c.requires.some c.broken.ensures.count,
  none_blocks c.args.inst.now (candidate c.args.inst.now c.args.engine.now) (length c.args.out.now) c.broken.result c.broken.ensures.count,
)
