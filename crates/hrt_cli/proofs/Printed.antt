-- What a run has read that is told by no refusal.
use Rattle.std.proofs.Common.{◌≡◌, ◌==◌, ◌||◌, ℕ, Bool, true, false, List, [], ◌∷◌, Option, Some, Result, Ok, Err, refl, sym, ◌∙◌, ap, subst}
use Rattle.hrt_base.specs.declared.port.Port.TheVariants.{Report}
use Rattle.hrt_base.specs.World.{World}
use Rattle.rank_tables.specs.Instance.{Lists}
use Rattle.hrt_reader.specs.Accepted.{Spells}
use Rattle.hrt_inputs.specs.Rejections.{Rejection, refused, exceeded, pairs_refused, model_refused, proof_refused, truncated}
use Rattle.hrt_inputs.specs.Taken.{taken_lists}
use Rattle.hrt_inputs.proofs.ReadInstances.{taken_spelled}
use Rattle.hrt_cli.specs.Outcomes.{Comes, OnRead, Outcome}
use Rattle.hrt_cli.specs.Outputs.{SendsAll, outputs_of}
use Rattle.hrt_cli.specs.Plans.{Files, Input, ReadsTo, Value, as_value, instance_in, lists, plan_of}
use Rattle.hrt_cli.specs.Requests.{Request}
use Rattle.hrt_cli.specs.Runs.{IsDecided}
use Rattle.hrt_cli.specs.Statuses.{code_of, rejection_status}
use Rattle.hrt_cli.proofs.Inputs.{ok_is, takes_first}

-- a code that tells that a file isn't taken
abbrev pub is_refusal : ℕ → Bool
is_refusal n = n == 3 || n == 7 || n == 8 || n == 12

refusal_code : (rejection : Rejection) → is_refusal (code_of (rejection_status rejection)) ≡ true
refusal_code (refused r) = refl
refusal_code (exceeded limit) = refl
refusal_code (pairs_refused r) = refl
refusal_code (model_refused kind line) = refl
refusal_code (proof_refused r) = refl
refusal_code truncated = refl

-- the inputs were read as these values, and this is what their job comes to
pub record IsDone (request : Option Request) (n : ℕ) (old new : World) : Type 0 where
  pub values : List Value
  pub reads : ReadsTo (plan_of request).inputs old.content.file [] (Ok values)
  pub outcome : Outcome
  pub comes : Comes (plan_of request).job values outcome
  pub code : n ≡ code_of outcome.status
  pub report : new.content.sent Report ≡ outcome.report
  pub sends : SendsAll (outputs_of request outcome.texts) old.content new.content

pub done : (request : Option Request) (n : ℕ) (old new : World) → is_refusal n ≡ false → IsDecided request n old new → IsDone request n old new
done request n old new other is = by is.reported.due.read is.reported.due.reads is.reported.due.comes
  where
    code : n ≡ code_of is.reported.outcome.status
    code = is.code ∙ ap code_of is.reported.answered

    by : (r : Result (List Value) Rejection) → ReadsTo (plan_of request).inputs old.content.file [] r → OnRead (plan_of request).job r is.reported.outcome → IsDone request n old new
    by (Err rejection) reads comes =
        let t : true ≡ false = sym (refusal_code rejection) ∙ ap (λ (o : Outcome). is_refusal (code_of o.status)) (sym comes) ∙ ap is_refusal (sym code) ∙ other in
        absurd (cc)
    by (Ok values) reads comes = record {
      values = values;
      reads = reads;
      outcome = is.reported.outcome;
      comes = comes;
      code = code;
      report = is.reported.report;
      sends = is.reported.sends;
    }

-- ---- the instance

-- what is read as a value is this one
pub value_of : {A : Type 0} (value : A → Value) (r : Result A Rejection) (v : Value) → ◌≡◌ {A = Result Value Rejection} (Ok v) (as_value value r) → (x : A) × (r ≡ Ok x) × (v ≡ value x)
value_of value (Err rejection) v e = absurd (cc)
value_of value (Ok x) v e = (x, refl, ok_is {E = Rejection} v (value x) e)

-- the first input is an instance that the file spells, and these are read behind it
pub record HasInstance (name : List ℕ) (rest : List Input) (files : Files) (values : List Value) : Type 0 where
  pub bytes : List ℕ
  pub file : files name ≡ Some bytes
  pub lists_are : Lists
  pub spelled : Spells bytes lists_are
  pub reads : ReadsTo rest files (lists lists_are ∷ []) (Ok values)

pub has_instance : (name : List ℕ) (rest : List Input) (files : Files) (values : List Value) → ReadsTo (instance_in name ∷ rest) files [] (Ok values) → HasInstance name rest files values
has_instance name rest files values reads =
    let first = takes_first (instance_in name) rest files [] values reads in
    let is = value_of lists (taken_lists first.bytes) first.value first.reads in
    record {
      bytes = first.bytes;
      file = first.file;
      lists_are = is.0;
      spelled = taken_spelled first.bytes is.0 is.1;
      reads = subst (λ (v : Value). ReadsTo rest files (v ∷ []) (Ok values)) is.2 first.rest;
    }

-- the instance alone was read, and the job comes to this outcome with it
pub record OnInstance (request : Option Request) (name : List ℕ) (files : Files) (due : Outcome) : Type 0 where
  pub bytes : List ℕ
  pub file : files name ≡ Some bytes
  pub lists_are : Lists
  pub spelled : Spells bytes lists_are
  pub comes : Comes (plan_of request).job (lists lists_are ∷ []) due

pub on_instance : (request : Option Request) (name : List ℕ) (n : ℕ) (old new : World) → (plan_of request).inputs ≡ instance_in name ∷ [] → (run : IsDone request n old new)
    → OnInstance request name old.content.file run.outcome
on_instance request name n old new is run =
    let found = has_instance name [] old.content.file run.values (subst (λ (inputs : List Input). ReadsTo inputs old.content.file [] (Ok run.values)) is run.reads) in
    record {
      bytes = found.bytes;
      file = found.file;
      lists_are = found.lists_are;
      spelled = found.spelled;
      comes = subst (λ (values : List Value). Comes (plan_of request).job values run.outcome) (ok_is {E = Rejection} run.values (lists found.lists_are ∷ []) found.reads) run.comes;
    }

-- what is reported of an outcome that is this one
pub reported_as : (due this : Outcome) (text : List ℕ) → due ≡ this → text ≡ due.report → text ≡ this.report
reported_as due this text e is = is ∙ ap (λ (o : Outcome). o.report) e
