-- What a run that is done says of a proof.
use Rattle.std.proofs.Common.{◌≡◌, ℕ, List, [], ◌∷◌, length, flat_map, Option, Some, None, IfSome, Result, Ok, IsTrue, option_map, refl, ◌∙◌, ap, subst, inl, inr, ℤ, pos, neg_ℤ, ◌≤ℤ◌}
use Rattle.hrt_base.specs.declared.port.Port.TheVariants.{Model, Proof, Report}
use Rattle.hrt_base.specs.World.{World}
use Rattle.rank_tables.specs.Instance.{Lists}
use Rattle.rank_tables.specs.Stability.{is_weakly_stable}
use Rattle.hrt_reader.specs.Accepted.{Spells}
use Rattle.hrt_reader.proofs.Unrefused.{spelled_well_formed}
use Rattle.promotion_heuristic.proofs.Stable.{promotion-stable}
use Rattle.promotion_heuristic.specs.Promotion.{promotion}
use Rattle.pb_rows.specs.Formula.{Formula}
use Rattle.stability_model.specs.Model.{formula as formula_of}
use Rattle.opb_text.specs.Refusal.{Spells as SpellsFormula, lines_of}
use Rattle.opb_text.specs.Statements.{rows_in, statements}
use Rattle.proof_lines.specs.declared.line.Claim.{Claim}
use Rattle.proof_lines.specs.declared.line.Claim.TheVariants.{Bounds, Unsat, Nothing}
use Rattle.proof_rules.specs.Matchings.{NoneIsLarger, OneIsAsLarge, SaysOfMatchings}
use Rattle.proof_rules.specs.Sound.{HasNormalRows}
use Rattle.proof_rules.specs.Texts as text
use Rattle.proof_rules.specs.Texts.{IsValidText}
use Rattle.proof_rules.proofs.Matchings.{all_rise, verified_bounds}
use Rattle.proof_rules.proofs.Verdicts.{texts_sound}
use Rattle.hrt_inputs.specs.Rejections.{Rejection}
use Rattle.hrt_inputs.specs.Taken.{formula_in}
use Rattle.hrt_inputs.proofs.ReadModels.{model_spelled}
use Rattle.hrt_cli.specs.Outcomes.{Comes, checked, verified}
use Rattle.hrt_cli.specs.Plans as plan
use Rattle.hrt_cli.specs.Plans.{Files, ReadsProof, ReadsTo, Reads, Value, claim, formula, input, judged_as, model, proof}
use Rattle.hrt_cli.specs.Reports.{sizes_report, verify_report}
use Rattle.hrt_cli.specs.Requests.{check, verify}
use Rattle.hrt_cli.specs.Runs.{IsDecided, PrintsClaim, PrintsSizes}
use Rattle.hrt_cli.proofs.Inputs.{apart, ok_is, takes_first}
use Rattle.hrt_cli.proofs.Printed.{done, has_instance, reported_as, value_of}

-- ---- a proof that is accepted

-- the value is a claim that has a valid proof
record IsAccepted (f : Formula) (bytes : List ℕ) (value : Value) : Type 0 where
  says : Claim
  is : value ≡ claim says
  valid : IsValidText f bytes says

accepted : (f : Formula) (bytes : List ℕ) (value : Value) → ReadsProof f bytes (Ok value) → IsAccepted f bytes value
accepted f bytes value (inl long) = absurd (apart {E = Rejection} value _ long.1)
accepted f bytes value (inr judged) = by judged.judged judged.has judged.due
  where
    by : (v : text.Verdict) → text.HasVerdict f bytes v → ◌≡◌ {A = Result Value Rejection} (Ok value) (judged_as v) → IsAccepted f bytes value
    by (text.Accepted c) has e = record { says = c; is = ok_is {E = Rejection} value (claim c) e; valid = has }
    by (text.Refused r) has e = absurd (cc)
    by text.Truncated has e = absurd (cc)

-- behind these values a proof for this formula was read
record HasProof (first : Value) (f : Formula) (values : List Value) : Type 0 where
  bytes : List ℕ
  says : Claim
  valid : IsValidText f bytes says
  values_are : values ≡ first ∷ claim says ∷ []

has_proof : (first : Value) (f : Formula) (name : List ℕ) (files : Files) (values : List Value) → ((bytes : List ℕ) (value : Value) → Reads proof (first ∷ []) bytes (Ok value) → ReadsProof f bytes (Ok value))
    → ReadsTo (input Proof proof name ∷ []) files (first ∷ []) (Ok values) → HasProof first f values
has_proof first f name files values as_proof reads =
    let next = takes_first (input Proof proof name) [] files (first ∷ []) values reads in
    let is = accepted f next.bytes next.value (as_proof next.bytes next.value next.reads) in
    record {
      bytes = next.bytes;
      says = is.says;
      valid = is.valid;
      values_are = ok_is {E = Rejection} values (first ∷ next.value ∷ []) next.rest ∙ ap (λ (v : Value). first ∷ v ∷ []) is.is;
    }

-- ---- the sizes that are printed

record PrintsTrueSizes (lists : Lists) (text : List ℕ) : Type 0 where
  bound : Option ℤ
  found : Option ℤ
  report : text ≡ sizes_report bound found
  most : IfSome bound (λ k. (m : List ℕ) → IsTrue (is_weakly_stable lists m) → pos (length m) ≤ℤ k)
  some : IfSome found (λ k. (m : List ℕ) × IsTrue (is_weakly_stable lists m) × (k ≤ℤ pos (length m)))

none_larger : (lists : Lists) (l : Option ℤ) → NoneIsLarger lists l → IfSome (option_map neg_ℤ l) (λ k. (m : List ℕ) → IsTrue (is_weakly_stable lists m) → pos (length m) ≤ℤ k)
none_larger lists None h = tt
none_larger lists (Some l) h = h

one_as_large : (lists : Lists) (u : Option ℤ) → OneIsAsLarge lists u → IfSome (option_map neg_ℤ u) (λ k. (m : List ℕ) × IsTrue (is_weakly_stable lists m) × (k ≤ℤ pos (length m)))
one_as_large lists None h = tt
one_as_large lists (Some u) h = h

-- that there is no weakly stable matching is claimed of no instance
true_sizes : (bytes : List ℕ) (lists : Lists) (claim : Claim) (text : List ℕ) → Spells bytes lists → SaysOfMatchings lists claim → text ≡ verify_report claim → PrintsTrueSizes lists text
true_sizes bytes lists (Bounds l u) text spelled says is = record {
  bound = option_map neg_ℤ l;
  found = option_map neg_ℤ u;
  report = is;
  most = none_larger lists l says.0;
  some = one_as_large lists u says.1;
}
true_sizes bytes lists Unsat text spelled says is = absurd (says (promotion lists) (promotion-stable lists (spelled_well_formed bytes lists spelled)))
true_sizes bytes lists Nothing text spelled says is = record { bound = None; found = None; report = is; most = tt; some = tt }

pub sizes : (i p : List ℕ) (old new : World) → IsDecided (Some (verify i p)) 0 old new → PrintsSizes i old.content new.content
sizes i p old new is =
    let run = done (Some (verify i p)) 0 old new refl is in
    let found = has_instance i (input Proof proof p ∷ []) old.content.file run.values run.reads in
    let l = found.lists_are in
    let proved = has_proof (plan.lists l) (formula_of l) p old.content.file run.values (λ bytes value reads. reads) found.reads in
    let due : run.outcome ≡ verified proved.says = subst (λ (values : List Value). Comes plan.verify values run.outcome) proved.values_are run.comes in
    let sizes = true_sizes found.bytes l proved.says (new.content.sent Report) found.spelled (verified_bounds l proved.bytes proved.says proved.valid)
    (reported_as run.outcome (verified proved.says) (new.content.sent Report) due run.report) in
    record {
      bytes = found.bytes;
      file = found.file;
      lists = l;
      spelled = found.spelled;
      bound = sizes.bound;
      found = sizes.found;
      report = sizes.report;
      most = sizes.most;
      some = sizes.some;
    }

-- ---- the claim that is printed

normal_rows : (bytes : List ℕ) (f : Formula) → SpellsFormula bytes f → HasNormalRows f
normal_rows bytes f spelled = subst HasNormalRows spelled.says (all_rise (flat_map rows_in (statements (lines_of bytes))))

pub claimed : (m p : List ℕ) (old new : World) → IsDecided (Some (check m p)) 0 old new → PrintsClaim m old.content new.content
claimed m p old new is =
    let run = done (Some (check m p)) 0 old new refl is in
    let first = takes_first (input Model model m) (input Proof proof p ∷ []) old.content.file [] run.values run.reads in
    let read = value_of formula (formula_in first.bytes) first.value first.reads in
    let rest = subst (λ (v : Value). ReadsTo (input Proof proof p ∷ []) old.content.file (v ∷ []) (Ok run.values)) read.2 first.rest in
    let proved = has_proof (formula read.0) read.0 p old.content.file run.values (λ bytes value reads. reads) rest in
    let due : run.outcome ≡ checked proved.says = subst (λ (values : List Value). Comes plan.check values run.outcome) proved.values_are run.comes in
    let spelled = model_spelled first.bytes read.0 read.1 in
    record {
      bytes = first.bytes;
      file = first.file;
      formula = read.0;
      spelled = spelled;
      claim = proved.says;
      report = reported_as run.outcome (checked proved.says) (new.content.sent Report) due run.report;
      is_true = texts_sound read.0 proved.bytes proved.says (normal_rows first.bytes read.0 spelled) proved.valid;
    }
