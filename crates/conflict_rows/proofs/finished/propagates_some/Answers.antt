use Rattle.pb_rows.proofs.Order.{rising_positive}
use Rattle.conflict_rows.proofs.finished.propagates_some.Goals as goal

pub open_total-sum-requires-clause-positive : goal.open_total-sum-requires-clause-positive
open_total-sum-requires-clause-positive c = rw c.terms-terms.ensures.terms (rising_positive 0 c.args.row.now.terms c.terms-terms.ensures.normal.rising)

pub propagates_any-requires-clause-positive : goal.propagates_any-requires-clause-positive
propagates_any-requires-clause-positive c = rw c.terms-terms.ensures.terms (rising_positive 0 c.args.row.now.terms c.terms-terms.ensures.normal.rising)
