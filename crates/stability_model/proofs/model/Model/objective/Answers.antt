use Rattle.std.proofs.Common.{pos, neg_ℤ}
use Rattle.rank_tables.specs.Instance.{pair_count}
use Rattle.stability_model.specs.Model.{term}
use Rattle.stability_model.proofs.Growing.{at_slice}
use Rattle.stability_model.proofs.model.Model.objective.Goals as goal

pub returns : goal.returns
returns c = at_slice (λ p. term (neg_ℤ (pos 1)) p) (pair_count c.args.self.now) c.args.p.0 c.requires.0 c.requires.1
