-- What a run that audits pairs prints.
use Rattle.std.proofs.Common.{◌≡◌, ◌⊎◌, ◌==◌, ℕ, Bool, true, false, cond, List, [], ◌∷◌, Some, Ok, refl, sym, ◌∙◌, ap, subst, inl, inr}
use Rattle.hrt_base.specs.declared.port.Port.TheVariants.{Pairs, Report}
use Rattle.hrt_base.specs.World.{World}
use Rattle.rank_tables.specs.Instance.{Lists}
use Rattle.rank_tables.specs.Stability.{is_weakly_stable}
use Rattle.hrt_inputs.specs.Rejections.{Rejection}
use Rattle.hrt_inputs.specs.Taken.{pairs_in}
use Rattle.hrt_inputs.proofs.ReadPairs.{pairs_spelled}
use Rattle.hrt_cli.specs.declared.status.Status.TheVariants.{Done, AuditNo}
use Rattle.hrt_cli.specs.Outcomes.{Comes, Outcome, audited}
use Rattle.hrt_cli.specs.Plans as plan
use Rattle.hrt_cli.specs.Plans.{Files, ReadsTo, Value, input, listed, lists, pairs, plan_of}
use Rattle.hrt_cli.specs.Requests.{audit}
use Rattle.hrt_cli.specs.Runs.{IsDecided, PrintsAudit, has_report}
use Rattle.hrt_cli.specs.Statuses.{code_of}
use Rattle.hrt_cli.proofs.Inputs.{ok_is, takes_first}
use Rattle.hrt_cli.proofs.Printed.{done, has_instance, is_refusal, reported_as, value_of}

-- behind the instance a file with pairs was read
record HasPairs (l : Lists) (name : List ℕ) (files : Files) (values : List Value) : Type 0 where
  bytes : List ℕ
  file : files name ≡ Some bytes
  numbers : List ℕ
  taken : pairs_in l bytes ≡ Ok numbers
  values_are : values ≡ lists l ∷ listed numbers ∷ []

has_pairs : (l : Lists) (name : List ℕ) (files : Files) (values : List Value) → ReadsTo (input Pairs pairs name ∷ []) files (lists l ∷ []) (Ok values) → HasPairs l name files values
has_pairs l name files values reads =
    let next = takes_first (input Pairs pairs name) [] files (lists l ∷ []) values reads in
    let is = value_of listed (pairs_in l next.bytes) next.value next.reads in
    record {
      bytes = next.bytes;
      file = next.file;
      numbers = is.0;
      taken = is.1;
      values_are = ok_is {E = Rejection} values (lists l ∷ next.value ∷ []) next.rest ∙ ap (λ (v : Value). lists l ∷ v ∷ []) is.2;
    }

stable_code : (b : Bool) → b ≡ (code_of (cond b Done AuditNo) == 0)
stable_code true = refl
stable_code false = refl

not_refusal : (n : ℕ) → (n ≡ 0) ⊎ (n ≡ 9) → is_refusal n ≡ false
not_refusal n (inl e) = ap is_refusal e
not_refusal n (inr e) = ap is_refusal e

pub comes_with_report : (n : ℕ) → (n ≡ 0) ⊎ (n ≡ 9) → has_report n ≡ true
comes_with_report n (inl e) = ap has_report e
comes_with_report n (inr e) = ap has_report e

pub audits : (i q : List ℕ) (n : ℕ) (old new : World) → (n ≡ 0) ⊎ (n ≡ 9) → IsDecided (Some (audit i q)) n old new → PrintsAudit i q (n == 0) old.content new.content
audits i q n old new e is =
    let run = done (Some (audit i q)) n old new (not_refusal n e) is in
    let found = has_instance i (input Pairs pairs q ∷ []) old.content.file run.values run.reads in
    let l = found.lists_are in
    let next = has_pairs l q old.content.file run.values found.reads in
    let due : run.outcome ≡ audited l next.numbers = subst (λ (values : List Value). Comes plan.audit values run.outcome) next.values_are run.comes in
    let spelled = pairs_spelled l next.bytes next.numbers next.taken in
    record {
      bytes = found.bytes;
      file = found.file;
      lists = l;
      spelled = found.spelled;
      pairs_bytes = next.bytes;
      pairs_file = next.file;
      taken = spelled.accepted;
      listed = next.numbers;
      listed_are = sym spelled.says;
      stability = stable_code (is_weakly_stable l next.numbers) ∙ ap (λ (o : Outcome). code_of o.status == 0) (sym due) ∙ ap (λ (k : ℕ). k == 0) (sym run.code);
      report = reported_as run.outcome (audited l next.numbers) (new.content.sent Report) due run.report;
    }
