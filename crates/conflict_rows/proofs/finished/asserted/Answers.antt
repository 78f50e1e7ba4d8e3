use Rattle.std.proofs.Common.{arith}
use Rattle.std.specs.List.{All}
use Rattle.hrt_base.specs.declared.literal.Term.{Term}
use Rattle.pb_rows.specs.Terms.{IsPositive}
use Rattle.pb_rows.proofs.Order.{rising_positive}
use Rattle.conflict_rows.proofs.finished.asserted.Goals as goal

pub open_total-sum-requires-clause-positive : goal.open_total-sum-requires-clause-positive
open_total-sum-requires-clause-positive c = rw c.terms-terms.ensures.terms (rising_positive 0 c.args.row.now.terms c.terms-terms.ensures.normal.rising)

pub propagates-requires-clause-positive : goal.propagates-requires-clause-positive
propagates-requires-clause-positive c =
    let all : All (λ (t : Term). IsPositive t.coef) c.terms-terms.result.now = rw c.terms-terms.ensures.terms (rising_positive 0 c.args.row.now.terms c.terms-terms.ensures.normal.rising) in
    all c.loop-k.k _ (omega arith)
