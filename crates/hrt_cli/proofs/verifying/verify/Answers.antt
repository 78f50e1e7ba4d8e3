use Rattle.std.proofs.Common.{[], ◌∷◌, Some, refl}
use Rattle.hrt_base.specs.declared.port.Port.TheVariants.{Proof}
use Rattle.stability_model.specs.Model.{formula}
use Rattle.hrt_cli.specs.Outcomes.{verified}
use Rattle.hrt_cli.specs.Plans.{claim, input, instance_in, lists, proof}
use Rattle.hrt_cli.specs.Requests.{verify}
use Rattle.hrt_cli.proofs.Loads.{stops_instance, stops_proof, takes_proof}
use Rattle.hrt_cli.proofs.Reading.{has_read_instance, has_read_next, has_read_none}
use Rattle.hrt_cli.proofs.Serving.{answered, stopped}
use Rattle.hrt_cli.proofs.verifying.verify.Goals as goal

pub returns-in-Ok-claim_on_instance : goal.returns-in-Ok-claim_on_instance
returns-in-Ok-claim_on_instance g c =
    let i = c.args.instance.now in
    let p = c.args.proof.now in
    let l = c.in-Ok.inst in
    let says = c.in-Ok-claim_on_instance.claim in
    let read = has_read_next _ (instance_in i ∷ []) (lists l ∷ []) (input Proof proof p) (claim says) _ _ _ (has_read_instance _ i l _ _ c.requires c.in-Ok.ensures.loaded)
    (takes_proof _ p (lists l ∷ []) (formula l) refl says _ _ c.in-Ok-claim_on_instance.ensures.judged) in
    answered _ (Some (verify i p)) (lists l ∷ claim says ∷ []) (verified says) _ _ _ read refl refl refl c.verified.ensures.answered c.verified.ensures.ended

pub returns : goal.returns
returns g c =
    let i = c.args.instance.now in
    let p = c.args.proof.now in
    let l = c.in-Ok.inst in
    stopped _ (Some (verify i p)) (instance_in i ∷ []) [] (input Proof proof p) (lists l ∷ []) c.in-Err-claim_on_instance.stop _ _ _ refl (has_read_instance _ i l _ _ c.requires c.in-Ok.ensures.loaded)
    (stops_proof _ p (lists l ∷ []) (formula l) refl c.in-Err-claim_on_instance.stop _ _ c.in-Err-claim_on_instance.ensures.stopped) _ c.claim_on_instance.ensures.begun c.claim_on_instance.ensures.others
    c.explain-in-Err-claim_on_instance.ensures.told c.explain-in-Err-claim_on_instance.ensures.ended

pub returns-in-Err : goal.returns-in-Err
returns-in-Err g c =
    let i = c.args.instance.now in
    stopped _ (Some (verify i c.args.proof.now)) [] (input Proof proof c.args.proof.now ∷ []) (instance_in i) [] c.in-Err.stop _ _ _ refl (has_read_none _ _ c.requires)
    (stops_instance _ i [] c.in-Err.stop _ _ c.in-Err.ensures.stopped) _ c.load.ensures.begun c.load.ensures.others c.explain.ensures.told c.explain.ensures.ended
