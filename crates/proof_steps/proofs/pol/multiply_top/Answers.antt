use Rattle.std.proofs.Common.{◌≡◌, true, false, ap, sym, subst, ◌∙◌}
use Rattle.pb_rows.specs.Terms.{positive_part}
use Rattle.pb_rows.specs.Rows.{Fits, times}
use Rattle.pb_rows.proofs.Changes.{weight_passed}
use Rattle.proof_steps.proofs.Stacks.{on_top_made, on_top_refused}
use Rattle.proof_steps.proofs.pol.multiply_top.Goals as goal

pub returns-in-Err-clause-refused : goal.returns-in-Err-clause-refused
returns-in-Err-clause-refused c =
    on_top_refused (times (positive_part c.args.k)) c.in-Some.row c.args.stack.now c.pop.new.self (rw c.in-Some.is at c.in_ok-row.ensures)
    (λ f. let wrong : false ≡ true = c.in-Err.ensures.fits.1 (subst (λ n. Fits (times n c.in-Some.row)) (sym (weight_passed c.args.k c.ranges.k)) f) in absurd (cc))

pub returns-in_ok-push_made-in-Ok-clause-ok : goal.returns-in_ok-push_made-in-Ok-clause-ok
returns-in_ok-push_made-in-Ok-clause-ok c =
    on_top_made (times (positive_part c.args.k)) c.in-Some.row c.times.new.self c.args.stack.now c.pop.new.self _ (rw c.in-Some.is at c.in_ok-row.ensures)
    (c.in-Ok.ensures.ok ∙ ap (λ n. times n c.in-Some.row) (weight_passed c.args.k c.ranges.k)) c.in_ok-push_made-in-Ok.ensures
