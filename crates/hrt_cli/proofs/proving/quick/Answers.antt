use Rattle.std.proofs.Common.{[], Some, refl}
use Rattle.hrt_cli.specs.Outcomes.{matched}
use Rattle.hrt_cli.specs.Plans.{instance_in}
use Rattle.hrt_cli.specs.Requests.{quick}
use Rattle.hrt_solve.specs.Writing.{IsQuickText}
use Rattle.hrt_cli.proofs.Loads.{stops_instance}
use Rattle.hrt_cli.proofs.ProofWriters.{IsMatchProof, match_answers, match_proves, match_text, matching, proved, unproved}
use Rattle.hrt_cli.proofs.Reading.{has_read_instance, has_read_none}
use Rattle.hrt_cli.proofs.Serving.{stopped}
use Rattle.hrt_cli.proofs.proving.quick.Goals as goal

pub returns-in-Ok-save_match : goal.returns-in-Ok-save_match
returns-in-Ok-save_match g c =
    let i = c.args.instance.now in
    let m = c.args.model.now in
    let p = c.args.proof.now in
    let l = c.in-Ok.inst in
    let end = c.in-Ok-save_match.end in
    let said = c.in-Ok-save_match.ensures.said in
    proved _ (IsQuickText l) l (matching i m p l) _ _ _ (has_read_instance _ i l _ _ c.requires c.in-Ok.ensures.loaded) c.save_match.ensures.ports c.save_match.ensures.others
    (IsMatchProof l end.ceiling) (matched l end.deleted end.ceiling) _ (match_proves i m p l end.deleted end.ceiling said.numbers) (match_text l end.deleted end.ceiling said.numbers) c.in-Ok-save_match.ensures.saved
    (match_answers l end _ said c.solved.ensures.answered) c.solved.ensures.ended

pub returns : goal.returns
returns g c =
    let i = c.args.instance.now in
    let l = c.in-Ok.inst in
    unproved _ (IsQuickText l) l (matching i c.args.model.now c.args.proof.now l) _ _ _ (has_read_instance _ i l _ _ c.requires c.in-Ok.ensures.loaded) c.save_match.ensures.ports c.save_match.ensures.others _ _ c.from.ensures
    c.in-Err-save_match.ensures.part (λ is. c.in-Err-save_match.ensures.failed (cc is))

pub returns-in-Err : goal.returns-in-Err
returns-in-Err g c =
    let i = c.args.instance.now in
    stopped _ (Some (quick i c.args.model.now c.args.proof.now)) [] [] (instance_in i) [] c.in-Err.stop _ _ _ refl (has_read_none _ _ c.requires)
    (stops_instance _ i [] c.in-Err.stop _ _ c.in-Err.ensures.stopped) _ c.load.ensures.begun c.load.ensures.others c.explain.ensures.told c.explain.ensures.ended
