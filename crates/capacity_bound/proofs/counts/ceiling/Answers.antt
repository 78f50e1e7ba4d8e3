use Rattle.std.proofs.Common.{arith}
use Rattle.derivation.specs.Deletions.{is_deleted}
use Rattle.capacity_bound.proofs.CeilingFew.{posts_few}
use Rattle.capacity_bound.proofs.counts.ceiling.Goals as goal

pub returns-clause-few : goal.returns-clause-few
returns-clause-few c = omega (arith, c.min.ensures, c.posts_left.ensures, posts_few c.args.inst.now (is_deleted c.args.gone.now))
