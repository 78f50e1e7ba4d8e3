use Rattle.std.proofs.Common.{[], Some, refl}
use Rattle.hrt_cli.specs.Outcomes.{IsProofOf, solved}
use Rattle.hrt_cli.specs.Plans.{instance_in}
use Rattle.hrt_cli.specs.Reports.{finding_of}
use Rattle.hrt_cli.specs.Requests.{solve}
use Rattle.hrt_solve.specs.Searched.{IsSolveText}
use Rattle.hrt_cli.proofs.Loads.{stops_instance}
use Rattle.hrt_cli.proofs.ProofWriters.{proved, searching, solve_proves, solve_text, unproved}
use Rattle.hrt_cli.proofs.Reading.{has_read_instance, has_read_none}
use Rattle.hrt_cli.proofs.Serving.{stopped}
use Rattle.hrt_cli.proofs.proving.solve.Goals as goal

pub returns-in-Ok-save_solve : goal.returns-in-Ok-save_solve
returns-in-Ok-save_solve g c =
    let i = c.args.instance.now in
    let m = c.args.model.now in
    let p = c.args.proof.now in
    let n = c.args.budget.conflicts in
    let l = c.in-Ok.inst in
    let end = c.in-Ok-save_solve.end in
    let said = c.in-Ok-save_solve.ensures.said in
    proved _ (IsSolveText l n) l (searching i m p n l) _ _ _ (has_read_instance _ i l _ _ c.requires c.in-Ok.ensures.loaded) c.save_solve.ensures.ports c.save_solve.ensures.others
    (IsProofOf l n end) (solved l (finding_of end) end.best) _ (solve_proves i m p n l end said) (solve_text l n end said) c.in-Ok-save_solve.ensures.saved
    c.solved.ensures.answered c.solved.ensures.ended

pub returns : goal.returns
returns g c =
    let i = c.args.instance.now in
    let n = c.args.budget.conflicts in
    let l = c.in-Ok.inst in
    unproved _ (IsSolveText l n) l (searching i c.args.model.now c.args.proof.now n l) _ _ _ (has_read_instance _ i l _ _ c.requires c.in-Ok.ensures.loaded) c.save_solve.ensures.ports c.save_solve.ensures.others _ _ c.from.ensures
    c.in-Err-save_solve.ensures.part (λ is. c.in-Err-save_solve.ensures.failed (cc is))

pub returns-in-Err : goal.returns-in-Err
returns-in-Err g c =
    let i = c.args.instance.now in
    stopped _ (Some (solve i c.args.model.now c.args.proof.now c.args.budget.conflicts)) [] [] (instance_in i) [] c.in-Err.stop _ _ _ refl (has_read_none _ _ c.requires)
    (stops_instance _ i [] c.in-Err.stop _ _ c.in-Err.ensures.stopped) _ c.load.ensures.begun c.load.ensures.others c.explain.ensures.told c.explain.ensures.ended
