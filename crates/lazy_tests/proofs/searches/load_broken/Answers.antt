use Rattle.std.proofs.Common.{◌∙◌, subst, take}
use Rattle.rank_tables.specs.Instance.{Lists}
use Rattle.lazy_stability.specs.Candidates.{AreBlocking, candidate}
use Rattle.lazy_tests.proofs.searches.load_broken.Goals as goal

pub load-requires-clause-block : goal.load-requires-clause-block
load-requires-clause-block c =
    subst (λ (lists : Lists). AreBlocking lists (candidate lists c.args.engine.now) (take c.broken-count.result c.broken-count.new.out)) (c.instance-inst.ensures ∙ c.requires.same)
    c.broken-count.ensures.blocking
