use Rattle.hrt_solve.proofs.Judging.{handed_on, judges, stopped}
use Rattle.hrt_solve.proofs.SmallClaims.{valid_claim_small}
use Rattle.hrt_solve.proofs.checking.check.Goals as goal

pub returns-in_err-finish-clause-stopped : goal.returns-in_err-finish-clause-stopped
returns-in_err-finish-clause-stopped g c =
    let fed = c.in_ok-feed_proof.ensures.fed in
    let judged = judges _ _ _ _ _ _ _ c.in_ok-checker.ensures.is fed c.in_err-finish.ensures.verdict in
    handed_on _ _ _ _ _ _ c.from_residual-in_err-finish.ensures.1 (stopped _ _ _ _ _ _ fed.read judged)

pub returns-clause-small : goal.returns-clause-small
returns-clause-small g c =
    let judged = judges _ _ _ _ _ _ _ c.in_ok-checker.ensures.is c.in_ok-feed_proof.ensures.fed c.in_ok-finish.ensures.verdict in
    valid_claim_small c.args.formula c.feed_proof.new.checker.bytes c.in_ok-finish.field-0 judged.holds
