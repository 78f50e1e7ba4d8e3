use Rattle.std.proofs.Common.{[], Some, refl}
use Rattle.hrt_cli.specs.Outcomes.{bounded}
use Rattle.hrt_cli.specs.Plans.{instance_in}
use Rattle.hrt_cli.specs.Requests.{bound}
use Rattle.hrt_solve.specs.Writing.{IsBoundText}
use Rattle.hrt_cli.proofs.Loads.{stops_instance}
use Rattle.hrt_cli.proofs.ProofWriters.{IsBoundProof, bound_proves, bound_text, bounding, proved, unproved}
use Rattle.hrt_cli.proofs.Reading.{has_read_instance, has_read_none}
use Rattle.hrt_cli.proofs.Serving.{stopped}
use Rattle.hrt_cli.proofs.proving.bound.Goals as goal

pub returns-in-Ok-save_bound : goal.returns-in-Ok-save_bound
returns-in-Ok-save_bound g c =
    let i = c.args.instance.now in
    let m = c.args.model.now in
    let p = c.args.proof.now in
    let l = c.in-Ok.inst in
    let end = c.in-Ok-save_bound.end in
    let numbers = c.in-Ok-save_bound.ensures.numbers in
    proved _ (IsBoundText l) l (bounding i m p l) _ _ _ (has_read_instance _ i l _ _ c.requires c.in-Ok.ensures.loaded) c.save_bound.ensures.ports c.save_bound.ensures.others
    (IsBoundProof l end.ceiling) (bounded l end.deleted end.ceiling) _ (bound_proves i m p l end.deleted end.ceiling numbers) (bound_text l end.deleted end.ceiling numbers) c.in-Ok-save_bound.ensures.saved
    c.bounded.ensures.answered c.bounded.ensures.ended

pub returns : goal.returns
returns g c =
    let i = c.args.instance.now in
    let l = c.in-Ok.inst in
    unproved _ (IsBoundText l) l (bounding i c.args.model.now c.args.proof.now l) _ _ _ (has_read_instance _ i l _ _ c.requires c.in-Ok.ensures.loaded) c.save_bound.ensures.ports c.save_bound.ensures.others _ _ c.from.ensures
    c.in-Err-save_bound.ensures.part (λ is. c.in-Err-save_bound.ensures.failed (cc is))

pub returns-in-Err : goal.returns-in-Err
returns-in-Err g c =
    let i = c.args.instance.now in
    stopped _ (Some (bound i c.args.model.now c.args.proof.now)) [] [] (instance_in i) [] c.in-Err.stop _ _ _ refl (has_read_none _ _ c.requires)
    (stops_instance _ i [] c.in-Err.stop _ _ c.in-Err.ensures.stopped) _ c.load.ensures.begun c.load.ensures.others c.explain.ensures.told c.explain.ensures.ended
