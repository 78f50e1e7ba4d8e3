use Rattle.std.proofs.Common.{List, [], ◌∷◌, IfOk, Some, refl, subst}
use Rattle.hrt_base.specs.declared.numbered.PairNo.{PairNo}
use Rattle.hrt_base.specs.declared.port.Port.TheVariants.{Pairs}
use Rattle.rank_tables.specs.Stability.{is_weakly_stable}
use Rattle.rank_tables.specs.Tables.{numbers_of}
use Rattle.hrt_cli.specs.Answers.{IsAnswer}
use Rattle.hrt_cli.specs.Outcomes.{audited}
use Rattle.hrt_cli.specs.Plans.{input, instance_in, listed, lists, pairs}
use Rattle.hrt_cli.specs.Requests.{audit}
use Rattle.hrt_cli.proofs.AuditedPairs.{audit_suits}
use Rattle.hrt_cli.proofs.Loads.{stops_instance, stops_pairs, takes_pairs}
use Rattle.hrt_cli.proofs.Reading.{has_read_instance, has_read_next, has_read_none}
use Rattle.hrt_cli.proofs.Serving.{answered, stopped}
use Rattle.hrt_cli.proofs.auditing.audit.Goals as goal

pub returns-in-Ok-load_pairs : goal.returns-in-Ok-load_pairs
returns-in-Ok-load_pairs g c =
    let i = c.args.instance.now in
    let q = c.args.pairs.now in
    let l = c.in-Ok.inst in
    let numbers = numbers_of c.in-Ok-load_pairs.pairs.items in
    let tells = subst (λ (ps : List PairNo). IfOk c.audited.result (λ answer. IsAnswer (audited l (numbers_of ps)) answer)) c.deref.ensures.value c.audited.ensures.answered in
    let read = has_read_next _ (instance_in i ∷ []) (lists l ∷ []) (input Pairs pairs q) (listed numbers) _ _ _ (has_read_instance _ i l _ _ c.requires c.in-Ok.ensures.loaded) (takes_pairs _ q l numbers _ _ c.in-Ok-load_pairs.ensures.loaded) in
    answered _ (Some (audit i q)) (lists l ∷ listed numbers ∷ []) (audited l numbers) _ _ _ read refl (audit_suits i q (is_weakly_stable l numbers)) refl tells c.audited.ensures.ended

pub returns : goal.returns
returns g c =
    let i = c.args.instance.now in
    let q = c.args.pairs.now in
    let l = c.in-Ok.inst in
    stopped _ (Some (audit i q)) (instance_in i ∷ []) [] (input Pairs pairs q) (lists l ∷ []) c.in-Err-load_pairs.stop _ _ _ refl (has_read_instance _ i l _ _ c.requires c.in-Ok.ensures.loaded)
    (stops_pairs _ q l c.in-Err-load_pairs.stop _ _ c.in-Err-load_pairs.ensures.stopped) _ c.load_pairs.ensures.begun c.load_pairs.ensures.others c.explain-in-Err-load_pairs.ensures.told c.explain-in-Err-load_pairs.ensures.ended

pub returns-in-Err : goal.returns-in-Err
returns-in-Err g c =
    let i = c.args.instance.now in
    stopped _ (Some (audit i c.args.pairs.now)) [] (input Pairs pairs c.args.pairs.now ∷ []) (instance_in i) [] c.in-Err.stop _ _ _ refl (has_read_none _ _ c.requires)
    (stops_instance _ i [] c.in-Err.stop _ _ c.in-Err.ensures.stopped) _ c.load.ensures.begun c.load.ensures.others c.explain.ensures.told c.explain.ensures.ended
