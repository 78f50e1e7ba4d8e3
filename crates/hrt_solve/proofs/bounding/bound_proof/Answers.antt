use Rattle.std.proofs.Common.{ℕ, arith, subst}
use Rattle.rank_tables.specs.Instance.{Lists}
use Rattle.proof_lines.specs.declared.line.Claim.{Claim}
use Rattle.hrt_solve.specs.Claimed.{CanClaim}
use Rattle.hrt_solve.specs.Gauged.{bound_claim}
use Rattle.hrt_solve.specs.Writing.{IsProof}
use Rattle.hrt_solve.proofs.Claiming.{claims_bound}
use Rattle.hrt_solve.proofs.bounding.bound_proof.Goals as goal

pub conclude-requires : goal.conclude-requires
conclude-requires c =
    subst (λ (l : Lists). CanClaim l c.bound_claim.result c.gauge.new.deriv) c.instance.ensures
    (claims_bound c.instance.result.now c.in_ok-gauged.gauged.end.ceiling c.bound_claim.result c.in_ok-gauged.gauged.row c.gauge.new.deriv c.bound_claim.ensures (omega (arith, c.in_ok-gauged.ensures.small)) c.in_ok-gauged.ensures.gauged c.in_ok-gauged.ensures.lawful c.in_ok-gauged.ensures.least)

pub returns-clause-proof : goal.returns-clause-proof
returns-clause-proof c =
    let proof : IsProof c.args.model.now c.conclude.new.deriv.pending (bound_claim c.in_ok-gauged.gauged.end.ceiling) c.gauge.new.deriv.held.learn_notes =
    subst (λ (claim : Claim). IsProof c.args.model.now c.conclude.new.deriv.pending claim c.gauge.new.deriv.held.learn_notes) c.bound_claim.ensures c.in_ok-conclude.ensures.is_proof in
    subst (λ (n : ℕ). IsProof c.args.model.now c.conclude.new.deriv.pending (bound_claim c.in_ok-gauged.gauged.end.ceiling) n) c.in_ok-gauged.ensures.holds.unlearned proof
