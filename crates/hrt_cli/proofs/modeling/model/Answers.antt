use Rattle.std.proofs.Common.{[], ◌∷◌, Some, refl, inl}
use Rattle.hrt_base.specs.declared.port.Port.TheVariants.{Model}
use Rattle.hrt_inputs.specs.Inputs.{IsAt}
use Rattle.hrt_inputs.proofs.KeptPorts.{keeps_fewer}
use Rattle.hrt_cli.specs.Outcomes.{modeled}
use Rattle.hrt_cli.specs.Plans.{IsWritePort, instance_in, lists, to_file}
use Rattle.hrt_cli.specs.Requests.{model}
use Rattle.hrt_cli.proofs.BegunPorts.{begins_more}
use Rattle.hrt_cli.proofs.Loads.{stops_instance}
use Rattle.hrt_cli.proofs.Reading.{has_read_instance, has_read_none}
use Rattle.hrt_cli.proofs.Serving.{stopped, wrote}
use Rattle.hrt_cli.proofs.modeling.model.Goals as goal

pub returns-in-Ok : goal.returns-in-Ok
returns-in-Ok g c =
    let i = c.args.instance.now in
    let m = c.args.file.now in
    let l = c.in-Ok.inst in
    wrote _ (Some (model i m)) (lists l ∷ []) (modeled l) _ _ _ _ (has_read_instance _ i l _ _ c.requires c.in-Ok.ensures.loaded) refl refl refl tt
    (begins_more (IsAt Model) (IsWritePort (to_file Model m ∷ [])) _ _ (λ p is. inl is) c.modeled.ensures.ports) (keeps_fewer _ (IsAt Model) (IsWritePort (to_file Model m ∷ [])) _ _ (λ p is. inl is) c.modeled.ensures.others)
    c.modeled.ensures.answered c.modeled.ensures.saved c.modeled.ensures.ended

pub returns-in-Err : goal.returns-in-Err
returns-in-Err g c =
    let i = c.args.instance.now in
    stopped _ (Some (model i c.args.file.now)) [] [] (instance_in i) [] c.in-Err.stop _ _ _ refl (has_read_none _ _ c.requires)
    (stops_instance _ i [] c.in-Err.stop _ _ c.in-Err.ensures.stopped) _ c.load.ensures.begun c.load.ensures.others c.explain.ensures.told c.explain.ensures.ended
