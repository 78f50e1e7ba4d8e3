-- What calls over a host leave of the ports that they don't name.
use Rattle.std.proofs.Common.{◌≡◌, ℕ, List, Result, Ok, Err, IfOk, OnErr, refl, ◌∙◌, ap}
use Rattle.std.specs.declared.vec.Vec.{Vec}
use Rattle.hrt_base.specs.declared.port.Port.{Port}
use Rattle.hrt_base.specs.declared.port.Port.TheVariants.{Proof}
use Rattle.hrt_base.specs.Calls.{NotRead, Opened, Taken, TakenPart, TakenSoFar}
use Rattle.hrt_base.specs.World.{World, Content, put, with_rest}
use Rattle.hrt_base.proofs.Pieces.{port_no-injective, taken_so_far}
use Rattle.pb_rows.specs.Formula.{Formula}
use Rattle.proof_rules.specs.Texts.{Verdict}
use Rattle.hrt_solve.specs.declared.refusal.CheckRefusal.{CheckRefusal}
use Rattle.hrt_solve.specs.declared.refusal.CheckRefusal.TheVariants as check
use Rattle.hrt_solve.specs.Judged.{IsJudged, StopsCheck}
use Rattle.hrt_inputs.specs.Inputs.{IsAt, KeepsPorts}
use Rattle.hrt_inputs.proofs.Ports.{put_elsewhere}

pub put_at_others : {A : Type 0} (port : Port) (x : A) (f : Port → A) (p : Port) → (IsAt port p → ⊥) → put port x f p ≡ f p
put_at_others port x f p other = put_elsewhere port x f p (λ e. other (port_no-injective p port e))

-- ---- steps follow each other

pub keeps_all : (told : Type 0) (But : Port → Type 0) (w : World) → KeepsPorts told But w w
keeps_all told But w = record { name = λ t p other. refl; rest = λ t p other. refl; sent = λ t p other. refl }

pub keeps_then : (told : Type 0) (But : Port → Type 0) (old mid new : World) → KeepsPorts told But old mid → KeepsPorts told But mid new → KeepsPorts told But old new
keeps_then told But old mid new a b = record {
  name = λ t p other. b.name t p other ∙ a.name t p other;
  rest = λ t p other. b.rest t p other ∙ a.rest t p other;
  sent = λ t p other. b.sent t p other ∙ a.sent t p other;
}

pub keeps_fewer : (told : Type 0) (But Also : Port → Type 0) (old new : World) → ((p : Port) → But p → Also p) → KeepsPorts told But old new → KeepsPorts told Also old new
keeps_fewer told But Also old new more a = record {
  name = λ t p other. a.name t p (λ b. other (more p b));
  rest = λ t p other. a.rest t p (λ b. other (more p b));
  sent = λ t p other. a.sent t p (λ b. other (more p b));
}

pub keeps_same : (told : Type 0) (But : Port → Type 0) (old new : World) → (told → new.content ≡ old.content) → KeepsPorts told But old new
keeps_same told But old new same = record {
  name = λ t p other. ap (λ (c : Content). c.name p) (same t);
  rest = λ t p other. ap (λ (c : Content). c.rest p) (same t);
  sent = λ t p other. ap (λ (c : Content). c.sent p) (same t);
}

-- ---- reading

keeps_read : (told : Type 0) (port : Port) (old new : World) → (told → (bytes : List ℕ) × (new.content ≡ with_rest port bytes old.content)) → KeepsPorts told (IsAt port) old new
keeps_read told port old new read = record {
  name = λ t p other. ap (λ (c : Content). c.name p) (read t).1;
  rest = λ t p other. ap (λ (c : Content). c.rest p) (read t).1 ∙ put_at_others port (read t).0 old.content.rest p other;
  sent = λ t p other. ap (λ (c : Content). c.sent p) (read t).1;
}

pub not_read_keeps : (told : Type 0) (But : Port → Type 0) (old new : World) → NotRead told old new → KeepsPorts told But old new
not_read_keeps told But old new not = keeps_same told But old new not.content

opened_keeps : (told : Type 0) (port : Port) (name : List ℕ) (old new : World) → Opened told port name old new → KeepsPorts told (IsAt port) old new
opened_keeps told port name old new opened = keeps_read told port old new (λ t. let file = opened.content t in (file.0, file.2))

taken_keeps : (told : Type 0) (port : Port) (bytes : List ℕ) (old new : World) → TakenSoFar told port bytes old new → KeepsPorts told (IsAt port) old new
taken_keeps told port bytes old new taken = keeps_read told port old new (λ t. (new.content.rest port, taken.content t))

read_keeps_by : {A E : Type 0} (told : Type 0) (port : Port) (r : Result (Vec ℕ A) E) (old new : World) → IfOk r (λ bytes. Taken told port bytes.items old new) → OnErr r (TakenPart told port old new)
    → KeepsPorts told (IsAt port) old new
read_keeps_by told port (Ok bytes) old new whole part = taken_keeps told port bytes.items old new (taken_so_far told port bytes.items old new whole)
read_keeps_by told port (Err end) old new whole part = taken_keeps told port part.part.0 old new part.part.1

-- a file that was opened and read, as far as it went
pub read_keeps : {A E : Type 0} (told : Type 0) (port : Port) (name : List ℕ) (r : Result (Vec ℕ A) E) (old mid new : World) → Opened told port name old mid
    → IfOk r (λ bytes. Taken told port bytes.items mid new) → OnErr r (TakenPart told port mid new) → KeepsPorts told (IsAt port) old new
read_keeps told port name r old mid new opened whole part =
    keeps_then told (IsAt port) old mid new (opened_keeps told port name old mid opened) (read_keeps_by told port r mid new whole part)

-- ---- proofs

pub judged_keeps : (told : Type 0) (name : List ℕ) (f : Formula) (verdict : Verdict) (old mid new : World) → Opened told Proof name old mid → IsJudged told f verdict mid new → KeepsPorts told (IsAt Proof) old new
judged_keeps told name f verdict old mid new opened judged =
    keeps_then told (IsAt Proof) old mid new (opened_keeps told Proof name old mid opened) (taken_keeps told Proof judged.bytes mid new (taken_so_far told Proof judged.bytes mid new judged.read.taken))

stopped_by : (told : Type 0) (f : Formula) (refusal : CheckRefusal) (old new : World) → StopsCheck told f refusal old new → KeepsPorts told (IsAt Proof) old new
stopped_by told f check.Failed old new stopped = taken_keeps told Proof stopped.within.part.0 old new stopped.within.part.2
stopped_by told f check.TooLong old new stopped = taken_keeps told Proof stopped.part.0 old new (taken_so_far told Proof stopped.part.0 old new stopped.part.2)
stopped_by told f (check.Proof refusal) old new stopped = taken_keeps told Proof stopped.judged.bytes old new (taken_so_far told Proof stopped.judged.bytes old new stopped.judged.read.taken)
stopped_by told f check.NoMemory old new stopped = taken_keeps told Proof stopped.part.0 old new stopped.part.2

pub stopped_keeps : (told : Type 0) (name : List ℕ) (f : Formula) (refusal : CheckRefusal) (old mid new : World) → Opened told Proof name old mid → StopsCheck told f refusal mid new → KeepsPorts told (IsAt Proof) old new
stopped_keeps told name f refusal old mid new opened stopped =
    keeps_then told (IsAt Proof) old mid new (opened_keeps told Proof name old mid opened) (stopped_by told f refusal mid new stopped)
