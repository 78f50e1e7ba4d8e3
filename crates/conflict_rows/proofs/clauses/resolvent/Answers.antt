use Rattle.conflict_rows.proofs.CutCode.{sum_fits}
use Rattle.conflict_rows.proofs.clauses.resolvent.Goals as goal

pub add-requires : goal.add-requires
add-requires c = sum_fits c.args.clause.now c.args.reason.now c.in_ok-next.next c.in_ok-next.ensures c.terms.ensures.normal c.terms-2.ensures.normal c.requires.clause c.requires.reason
