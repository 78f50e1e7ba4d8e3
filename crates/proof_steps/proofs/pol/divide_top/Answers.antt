use Rattle.std.proofs.Common.{ap, ◌∙◌}
use Rattle.pb_rows.specs.Terms.{positive_part}
use Rattle.pb_rows.specs.Rows.{divide}
use Rattle.pb_rows.proofs.Changes.{weight_passed}
use Rattle.proof_steps.proofs.Stacks.{on_top_made}
use Rattle.proof_steps.proofs.pol.divide_top.Goals as goal

pub returns-clause-ok : goal.returns-clause-ok
returns-clause-ok c =
    on_top_made (divide (positive_part c.args.k)) c.in-Some.row c.divide.new.self c.args.stack.now c.pop.new.self _ (rw c.in-Some.is at c.in_ok-row.ensures)
    (c.divide.ensures.is ∙ ap (λ n. divide n c.in-Some.row) (weight_passed c.args.k c.ranges.k)) c.in_ok-push_made.ensures
