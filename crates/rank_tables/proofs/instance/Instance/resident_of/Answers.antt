use Rattle.rank_tables.proofs.PairFacts.{pair_at-acceptable}
use Rattle.rank_tables.proofs.instance.Instance.resident_of.Goals as goal

pub returns-clause-declared : goal.returns-clause-declared
returns-clause-declared c = rw c.entry.ensures ((pair_at-acceptable c.args.self.now c.args.p.0 c.requires).resident_declared)
