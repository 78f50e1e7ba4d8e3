-- What loading one input of a command comes to, whatever it is read as.
use Rattle.std.proofs.Common.{◌≡◌, ◌⊎◌, ℕ, List, [], ◌∷◌, Option, Some, Result, Ok, Err, IfSome, IsTrue, refl, sym, ◌∙◌, ap, subst, inl, inr}
use Rattle.std.specs.Prelude.{IsSomeAnd}
use Rattle.hrt_base.specs.declared.port.Port.TheVariants.{Pairs, Model, Proof}
use Rattle.hrt_base.specs.declared.host.Begun.TheVariants.{Reading}
use Rattle.hrt_base.specs.Calls.{Rose}
use Rattle.hrt_base.specs.World.{World, Content, put, with_rest}
use Rattle.hrt_base.proofs.Pieces.{put_here}
use Rattle.rank_tables.specs.Instance.{Lists}
use Rattle.pb_rows.specs.Formula.{Formula}
use Rattle.proof_lines.specs.declared.line.Claim.{Claim}
use Rattle.proof_rules.specs.Texts as text
use Rattle.hrt_inputs.specs.declared.limit.Limit.{Limit}
use Rattle.hrt_inputs.specs.declared.limit.Limit.TheVariants as limit
use Rattle.hrt_inputs.specs.declared.stop.Stop.{Stop}
use Rattle.hrt_inputs.specs.declared.stop.Stop.TheVariants.{Refused, Exceeded, PairsRefused, ModelRefused, ProofRefused, ReadFault, NoMemory}
use Rattle.hrt_inputs.specs.Formulas.{StopsModel}
use Rattle.hrt_inputs.specs.Inputs.{IsTooLong, OnlyRead}
use Rattle.hrt_inputs.specs.Limits.{most}
use Rattle.hrt_inputs.specs.Loading.{ArePairsLoaded, FailedToRead, IsLoaded, IsNotTaken, IsRead, StopsLoading, StopsLoadingPairs}
use Rattle.hrt_inputs.specs.Proofs.{IsProofJudged, StopsProof}
use Rattle.hrt_inputs.specs.Rejections.{Rejection, exceeded, proof_refused, truncated}
use Rattle.hrt_inputs.specs.Taken.{formula_in, pairs_in, taken_lists}
use Rattle.hrt_cli.specs.Answers.{PassedAt, rejection_of}
use Rattle.hrt_cli.specs.Plans.{Input, Reads, ReadsProof, Value, as_value, claim, formula, formula_among, input, instance_in, judged_as, listed, lists, model, pairs, proof}
use Rattle.hrt_cli.specs.Reports.{rejection_by}
use Rattle.hrt_cli.specs.Statuses.{code_of, is_code_among, refusals_of, rejection_status}

-- an input was read to its end with no call failed, and is taken behind these values
pub record TakesInput (told : Type 0) (i : Input) (before : List Value) (value : Value) (old new : World) : Type 0 where
  pub only_read : OnlyRead told old new
  pub read_faults : new.read_faults ≡ old.read_faults
  pub begun : new.begun ≡ put i.port Reading old.begun
  pub content : told → new.content ≡ with_rest i.port [] old.content
  pub reads : told → (bytes : List ℕ) × (old.content.file i.name ≡ Some bytes) × Reads i.kind before bytes (Ok value)

-- an input was read to its end, or further than its limit, with no call failed, and isn't taken
pub record RejectsInput (told : Type 0) (i : Input) (before : List Value) (rejection : Rejection) (old new : World) : Type 0 where
  pub read_faults : new.read_faults ≡ old.read_faults
  pub begun : new.begun ≡ put i.port Reading old.begun
  pub content : told → new.content ≡ with_rest i.port (new.content.rest i.port) old.content
  pub out : told → (new.content.rest i.port ≡ []) ⊎ PassedAt (Err rejection) i.port
  pub told_of : IsTrue (is_code_among (refusals_of i.kind) (code_of (rejection_status rejection)))
  pub reads : told → (bytes : List ℕ) × (old.content.file i.name ≡ Some bytes) × Reads i.kind before bytes (Err rejection)

-- an input could not be had, and this is why
pub record StopsInput (told : Type 0) (i : Input) (before : List Value) (stop : Stop) (old new : World) : Type 0 where
  pub only_read : OnlyRead told old new
  pub fault : stop ≡ ReadFault → Rose old.read_faults new.read_faults
  pub rejects : IfSome (rejection_of stop) (λ rejection. RejectsInput told i before rejection old new)

-- ---- files whose bytes are read by a function

module _ {A : Type 0} (told : Type 0) (i : Input) (before : List Value) (what : Limit) (read : List ℕ → Result A Rejection) (value : A → Value)
    (reads : (bytes : List ℕ) (r : Result Value Rejection) → r ≡ as_value value (read bytes) → Reads i.kind before bytes r) (passed : PassedAt (Err (exceeded what)) i.port) where
  takes : (x : A) (old new : World) → IsRead told i.port i.name read x old new → TakesInput told i before (value x) old new
  takes x old new is = record {
    only_read = is.only_read;
    read_faults = is.read_faults;
    begun = is.begun;
    content = is.content;
    reads = λ t. let text = is.spelled t in (text.0, text.1, reads text.0 (Ok (value x)) (sym (ap (as_value value) text.2)));
  }

  refuses : (rejection : Rejection) (old new : World) → IsTrue (is_code_among (refusals_of i.kind) (code_of (rejection_status rejection))) → IsNotTaken told i.port i.name what read rejection old new
      → RejectsInput told i before rejection old new
  refuses rejection old new told_of is = record {
    read_faults = is.read_faults;
    begun = is.begun;
    content = is.content;
    out = λ t. out (is.out t);
    told_of = told_of;
    reads = λ t. let text = is.due t in (text.0, text.1, reads text.0 (Err rejection) (sym (ap (as_value value) text.2)));
  }
    where
      out : (new.content.rest i.port ≡ []) ⊎ (rejection ≡ exceeded what) → (new.content.rest i.port ≡ []) ⊎ PassedAt (Err rejection) i.port
      out (inl e) = inl e
      out (inr e) = inr (subst (λ (r : Rejection). PassedAt (Err r) i.port) (sym e) passed)

-- a read fault stops the reading, and want of memory
failed : (told : Type 0) (i : Input) (before : List Value) (old new : World) → FailedToRead told old new → StopsInput told i before ReadFault old new
failed told i before old new is = record { only_read = is.only_read; fault = λ e. is.rose; rejects = tt }

wanting : (told : Type 0) (i : Input) (before : List Value) (old new : World) → OnlyRead told old new → StopsInput told i before NoMemory old new
wanting told i before old new is = record { only_read = is; fault = λ e. absurd (cc); rejects = tt }

-- ---- instances

pub takes_instance : (told : Type 0) (name : List ℕ) (before : List Value) (l : Lists) (old new : World) → IsLoaded told name l old new → TakesInput told (instance_in name) before (lists l) old new
takes_instance told name before l old new loaded = takes told (instance_in name) before limit.InstanceBytes taken_lists lists (λ bytes r e. e) refl l old new loaded

pub stops_instance : (told : Type 0) (name : List ℕ) (before : List Value) (stop : Stop) (old new : World) → StopsLoading told name stop old new
    → StopsInput told (instance_in name) before stop old new
stops_instance told name before (Refused kind line) old new not = record {
  only_read = not.only_read;
  fault = λ e. absurd (cc);
  rejects = refuses told (instance_in name) before limit.InstanceBytes taken_lists lists (λ bytes r e. e) refl _ old new refl not;
}
stops_instance told name before (Exceeded what) old new not = record {
  only_read = not.only_read;
  fault = λ e. absurd (cc);
  rejects = refuses told (instance_in name) before limit.InstanceBytes taken_lists lists (λ bytes r e. e) refl (exceeded what) old new refl not;
}
stops_instance told name before (PairsRefused kind line) old new not = absurd not
stops_instance told name before (ModelRefused kind line) old new not = absurd not
stops_instance told name before (ProofRefused refusal) old new not = absurd not
stops_instance told name before ReadFault old new not = failed told (instance_in name) before old new not
stops_instance told name before NoMemory old new not = wanting told (instance_in name) before old new not

-- ---- pairs

abbrev pairs_by : List ℕ → Input
pairs_by name = input Pairs pairs name

pub takes_pairs : (told : Type 0) (name : List ℕ) (l : Lists) (numbers : List ℕ) (old new : World) → ArePairsLoaded told name l numbers old new → TakesInput told (pairs_by name) (lists l ∷ []) (listed numbers) old new
takes_pairs told name l numbers old new loaded = takes told (pairs_by name) (lists l ∷ []) limit.PairsBytes (pairs_in l) listed (λ bytes r e. e) refl numbers old new loaded

pub stops_pairs : (told : Type 0) (name : List ℕ) (l : Lists) (stop : Stop) (old new : World) → StopsLoadingPairs told name l stop old new → StopsInput told (pairs_by name) (lists l ∷ []) stop old new
stops_pairs told name l (Refused kind line) old new not = absurd not
stops_pairs told name l (Exceeded what) old new not = record {
  only_read = not.only_read;
  fault = λ e. absurd (cc);
  rejects = refuses told (pairs_by name) (lists l ∷ []) limit.PairsBytes (pairs_in l) listed (λ bytes r e. e) refl (exceeded what) old new refl not;
}
stops_pairs told name l (PairsRefused kind line) old new not = record {
  only_read = not.only_read;
  fault = λ e. absurd (cc);
  rejects = refuses told (pairs_by name) (lists l ∷ []) limit.PairsBytes (pairs_in l) listed (λ bytes r e. e) refl _ old new refl not;
}
stops_pairs told name l (ModelRefused kind line) old new not = absurd not
stops_pairs told name l (ProofRefused refusal) old new not = absurd not
stops_pairs told name l ReadFault old new not = failed told (pairs_by name) (lists l ∷ []) old new not
stops_pairs told name l NoMemory old new not = wanting told (pairs_by name) (lists l ∷ []) old new not

-- ---- models

abbrev model_by : List ℕ → Input
model_by name = input Model model name

pub takes_model : (told : Type 0) (name : List ℕ) (before : List Value) (f : Formula) (old new : World) → IsRead told Model name formula_in f old new → TakesInput told (model_by name) before (formula f) old new
takes_model told name before f old new read = takes told (model_by name) before limit.ModelBytes formula_in formula (λ bytes r e. e) refl f old new read

pub stops_model : (told : Type 0) (name : List ℕ) (before : List Value) (stop : Stop) (old new : World) → StopsModel told name stop old new → StopsInput told (model_by name) before stop old new
stops_model told name before (Refused kind line) old new not = absurd not
stops_model told name before (Exceeded what) old new not = record {
  only_read = not.only_read;
  fault = λ e. absurd (cc);
  rejects = refuses told (model_by name) before limit.ModelBytes formula_in formula (λ bytes r e. e) refl (exceeded what) old new refl not;
}
stops_model told name before (PairsRefused kind line) old new not = absurd not
stops_model told name before (ModelRefused kind line) old new not = record {
  only_read = not.only_read;
  fault = λ e. absurd (cc);
  rejects = refuses told (model_by name) before limit.ModelBytes formula_in formula (λ bytes r e. e) refl _ old new refl not;
}
stops_model told name before (ProofRefused refusal) old new not = absurd not
stops_model told name before ReadFault old new not = failed told (model_by name) before old new not
stops_model told name before NoMemory old new not = wanting told (model_by name) before old new not

-- ---- proofs

abbrev proof_by : List ℕ → Input
proof_by name = input Proof proof name

module _ (told : Type 0) (name : List ℕ) (before : List Value) (f : Formula) (behind : formula_among before ≡ Some f) where
  read_as : (bytes : List ℕ) (r : Result Value Rejection) → ReadsProof f bytes r → Reads proof before bytes r
  read_as bytes r reads = subst (λ (o : Option Formula). IsSomeAnd o (λ g. ReadsProof g bytes r)) (sym behind) reads

  -- a proof is read as its verdict says
  judged_as_read : (judged : text.Verdict) (old new : World) → IsProofJudged told name f judged old new → told
      → (bytes : List ℕ) × (old.content.file name ≡ Some bytes) × Reads proof before bytes (judged_as judged)
  judged_as_read judged old new is t = let file = is.judged t in (file.0, file.1, read_as file.0 (judged_as judged) (inr (record { short = file.2; judged = judged; has = file.3; due = refl })))

  pub takes_proof : (c : Claim) (old new : World) → IsProofJudged told name f (text.Accepted c) old new → TakesInput told (proof_by name) before (claim c) old new
  takes_proof c old new is = record {
    only_read = is.only_read;
    read_faults = is.read_faults;
    begun = is.begun;
    content = is.content;
    reads = judged_as_read (text.Accepted c) old new is;
  }

  refuses_proof : (rejection : Rejection) (judged : text.Verdict) (old new : World) → judged_as judged ≡ Err rejection → IsTrue (is_code_among (refusals_of proof) (code_of (rejection_status rejection)))
      → IsProofJudged told name f judged old new → RejectsInput told (proof_by name) before rejection old new
  refuses_proof rejection judged old new e told_of is = record {
    read_faults = is.read_faults;
    begun = is.begun;
    content = λ t. is.content t ∙ ap (λ (rest : List ℕ). with_rest Proof rest old.content) (sym (left t));
    out = λ t. inl (left t);
    told_of = told_of;
    reads = λ t. let text = judged_as_read judged old new is t in (text.0, text.1, subst (λ (r : Result Value Rejection). Reads proof before text.0 r) e text.2);
  }
    where
      left : told → new.content.rest Proof ≡ []
      left t = ap (λ (c : Content). c.rest Proof) (is.content t) ∙ put_here Proof [] old.content.rest

  judged_rejects : (judged : text.Verdict) (old new : World) → IsProofJudged told name f judged old new → IfSome (rejection_by (Some judged)) (λ rejection. RejectsInput told (proof_by name) before rejection old new)
  judged_rejects (text.Accepted c) old new is = tt
  judged_rejects (text.Refused r) old new is = refuses_proof (proof_refused r) (text.Refused r) old new refl refl is
  judged_rejects text.Truncated old new is = refuses_proof truncated text.Truncated old new refl refl is

  too_long : (old new : World) → IsTooLong told Proof name (most limit.ProofBytes) old new → RejectsInput told (proof_by name) before (exceeded limit.ProofBytes) old new
  too_long old new is = record {
    read_faults = is.read_faults;
    begun = is.begun;
    content = is.content;
    out = λ t. inr refl;
    told_of = refl;
    reads = λ t. let text = is.file t in (text.0, text.1, read_as text.0 (Err (exceeded limit.ProofBytes)) (inl (text.2, refl)));
  }

  pub stops_proof : (stop : Stop) (old new : World) → StopsProof told name f stop old new → StopsInput told (proof_by name) before stop old new
  stops_proof (Refused kind line) old new not = absurd not
  stops_proof (Exceeded what) old new not = record {
    only_read = not.too_long.only_read;
    fault = λ e. absurd (cc);
    rejects = subst (λ (l : Limit). RejectsInput told (proof_by name) before (exceeded l) old new) (sym not.is) (too_long old new not.too_long);
  }
  stops_proof (PairsRefused kind line) old new not = absurd not
  stops_proof (ModelRefused kind line) old new not = absurd not
  stops_proof (ProofRefused refusal) old new not = record {
    only_read = not.judged.only_read;
    fault = λ e. absurd (cc);
    rejects = subst (λ (o : Option text.Verdict). IfSome (rejection_by o) (λ rejection. RejectsInput told (proof_by name) before rejection old new)) (sym not.is) (judged_rejects not.verdict old new not.judged);
  }
  stops_proof ReadFault old new not = failed told (proof_by name) before old new not
  stops_proof NoMemory old new not = wanting told (proof_by name) before old new not
