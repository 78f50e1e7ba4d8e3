use Rattle.hrt_solve.proofs.Claiming.{ends_proof}
use Rattle.hrt_solve.proofs.claims.conclude.Goals as goal

pub returns : goal.returns
returns c = ends_proof c.args.model.now c.args.claim c.args.deriv.now c.conclude.new.self c.requires c.in_ok-conclude.ensures.end c.in_ok-conclude.ensures.valid c.in_ok-conclude.ensures.proof c.lawful_rows_are_lazy.ensures
