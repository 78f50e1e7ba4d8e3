use Rattle.rank_tables.proofs.PairFacts.{rank_by_hospital-some}
use Rattle.rank_tables.proofs.instance.Instance.rank_by_hospital.Goals as goal

pub returns-clause-some : goal.returns-clause-some
returns-clause-some c = rw c.entry.ensures (rank_by_hospital-some c.args.self.now c.args.p.0 c.requires)
