use Rattle.std.proofs.Common.{[], ◌∷◌, Some, refl}
use Rattle.hrt_base.specs.declared.port.Port.TheVariants.{Model, Proof}
use Rattle.hrt_cli.specs.Outcomes.{checked}
use Rattle.hrt_cli.specs.Plans.{claim, formula, input, model, proof}
use Rattle.hrt_cli.specs.Requests.{check}
use Rattle.hrt_cli.proofs.Loads.{stops_model, stops_proof, takes_model, takes_proof}
use Rattle.hrt_cli.proofs.Reading.{has_read_next, has_read_none}
use Rattle.hrt_cli.proofs.Serving.{answered, stopped}
use Rattle.hrt_cli.proofs.checking.check.Goals as goal

pub returns-in-Ok-claim_on_formula : goal.returns-in-Ok-claim_on_formula
returns-in-Ok-claim_on_formula g c =
    let m = c.args.model.now in
    let p = c.args.proof.now in
    let f = c.in-Ok.formula in
    let says = c.in-Ok-claim_on_formula.claim in
    let first = has_read_next _ [] [] (input Model model m) (formula f) _ _ _ (has_read_none _ _ c.requires) (takes_model _ m [] f _ _ c.in-Ok.ensures.read) in
    let read = has_read_next _ (input Model model m ∷ []) (formula f ∷ []) (input Proof proof p) (claim says) _ _ _ first (takes_proof _ p (formula f ∷ []) f refl says _ _ c.in-Ok-claim_on_formula.ensures.judged) in
    answered _ (Some (check m p)) (formula f ∷ claim says ∷ []) (checked says) _ _ _ read refl refl refl c.checked.ensures.answered c.checked.ensures.ended

pub returns-in-Err-claim_on_formula : goal.returns-in-Err-claim_on_formula
returns-in-Err-claim_on_formula g c =
    let m = c.args.model.now in
    let p = c.args.proof.now in
    let f = c.in-Ok.formula in
    let first = has_read_next _ [] [] (input Model model m) (formula f) _ _ _ (has_read_none _ _ c.requires) (takes_model _ m [] f _ _ c.in-Ok.ensures.read) in
    stopped _ (Some (check m p)) (input Model model m ∷ []) [] (input Proof proof p) (formula f ∷ []) c.in-Err-claim_on_formula.stop _ _ _ refl first
    (stops_proof _ p (formula f ∷ []) f refl c.in-Err-claim_on_formula.stop _ _ c.in-Err-claim_on_formula.ensures.stopped) _ c.claim_on_formula.ensures.begun c.claim_on_formula.ensures.others
    c.explain-in-Err-claim_on_formula.ensures.told c.explain-in-Err-claim_on_formula.ensures.ended

pub returns-in-Err : goal.returns-in-Err
returns-in-Err g c =
    let m = c.args.model.now in
    stopped _ (Some (check m c.args.proof.now)) [] (input Proof proof c.args.proof.now ∷ []) (input Model model m) [] c.in-Err.stop _ _ _ refl (has_read_none _ _ c.requires)
    (stops_model _ m [] c.in-Err.stop _ _ c.in-Err.ensures.stopped) _ c.load_formula.ensures.begun c.load_formula.ensures.others c.explain.ensures.told c.explain.ensures.ended
