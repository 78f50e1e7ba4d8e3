-- Which ports stand begun, from what was done to them.
use Rattle.std.proofs.Common.{◌≡◌, ◌⊎◌, List, ℕ, Option, refl, sym, ◌∙◌, ap, subst, inl, inr}
use Rattle.std.proofs.lemmas.Bool.{cases_eq}
use Rattle.hrt_base.specs.declared.port.Port.{Port}
use Rattle.hrt_base.specs.declared.port.Port.TheVariants.{Model, Proof, Report}
use Rattle.hrt_base.specs.declared.host.Begun.{Begun}
use Rattle.hrt_base.specs.declared.host.Begun.TheVariants.{Idle, Reading, Writing}
use Rattle.hrt_base.specs.Calls.{AtStart, NotWritten, Sealed, Sent, SentFront, SentPart, Started}
use Rattle.hrt_base.specs.World.{World, port_no, put}
use Rattle.hrt_base.proofs.Pieces.{port_no-injective, put_here}
use Rattle.rank_tables.specs.Instance.{Lists}
use Rattle.opb_text.specs.Spelling.{model_text}
use Rattle.hrt_solve.specs.Writing.{SentBoth, SentFrontBehind, StopsWriting}
use Rattle.hrt_inputs.specs.Inputs.{IsAt}
use Rattle.hrt_cli.specs.Plans.{IsWritePort, model_and_proof}
use Rattle.hrt_cli.specs.Ports.{BeginsWriting, IsModelOrProof, ReadsInputs, WritesOutputs}
use Rattle.hrt_cli.specs.Requests.{Request}
use Rattle.hrt_inputs.proofs.Ports.{put_elsewhere}
use Rattle.hrt_cli.proofs.Runs.{reads_nothing, writes_report}
use Rattle.hrt_solve.specs.Writing.{SentWhole}

-- ---- a port that one step put in another state

-- a port in this state was so before, or it is the one of the step
pub stands_after : (port : Port) (x b : Begun) (old new : World) → new.begun ≡ put port x old.begun → (p : Port) → new.begun p ≡ b → (old.begun p ≡ b) ⊎ (p ≡ port)
stands_after port x b old new begun p is = elim (cases_eq (port_no p) (port_no port)) [
  | inl same ↦ inr (port_no-injective p port same)
  | inr other ↦ inl (sym (ap (λ (f : Port → Begun). f p) begun ∙ put_elsewhere port x old.begun p other) ∙ is)
]

-- a port in another state than that of the step was so before
stood_before : (port : Port) (x b : Begun) (old new : World) → (x ≡ b → ⊥) → new.begun ≡ put port x old.begun → (p : Port) → new.begun p ≡ b → old.begun p ≡ b
stood_before port x b old new other begun p is = by (stands_after port x b old new begun p is)
  where
    by : (old.begun p ≡ b) ⊎ (p ≡ port) → old.begun p ≡ b
    by (inl was) = was
    by (inr here) = absurd (other (sym (ap (λ (f : Port → Begun). f p) begun ∙ ap (put port x old.begun) here ∙ put_here port x old.begun) ∙ is))

-- ---- one read

pub read_by : (port : Port) (old new : World) → (new.begun ≡ old.begun) ⊎ (new.begun ≡ put port Reading old.begun) → (p : Port) → new.begun p ≡ Reading → (old.begun p ≡ Reading) ⊎ (p ≡ port)
read_by port old new (inl same) p is = inl (sym (ap (λ (f : Port → Begun). f p) same) ∙ is)
read_by port old new (inr begun) p is = stands_after port Reading Reading old new begun p is

pub at_start_writes : (told : Type 0) (request : Option Request) (w : World) → AtStart told w → WritesOutputs told request w w
at_start_writes told request w start = record { output = λ p writing. inl (port_no-injective p Report (writes_report told w start p writing)) }

pub at_start_reads : (told : Type 0) (request : Option Request) (w : World) → AtStart told w → ReadsInputs told request w w
at_start_reads told request w start = record { input = λ p reading. absurd (reads_nothing told w start p reading) }

-- ---- the report

pub sent_whole_reads : (told : Type 0) (request : Option Request) (text : List ℕ) (old mid new : World) → ReadsInputs told request old mid → SentWhole told Report text mid new → ReadsInputs told request old new
sent_whole_reads told request text old mid new before sent = record { input = λ p reading. before.input p (stood_before Report Idle Reading mid new (λ e. absurd (cc)) sent.begun p reading) }

pub sent_whole_writes : (told : Type 0) (request : Option Request) (text : List ℕ) (old mid new : World) → WritesOutputs told request old mid → SentWhole told Report text mid new → WritesOutputs told request old new
sent_whole_writes told request text old mid new before sent = record { output = λ p writing. before.output p (stood_before Report Idle Writing mid new (λ e. absurd (cc)) sent.begun p writing) }

pub sent_part_reads : (told : Type 0) (request : Option Request) (text : List ℕ) (old mid new : World) → ReadsInputs told request old mid → SentPart told Report text mid new → ReadsInputs told request old new
sent_part_reads told request text old mid new before sent = record { input = λ p reading. before.input p (sym (ap (λ (f : Port → Begun). f p) sent.part.1.begun) ∙ reading) }

pub sent_part_writes : (told : Type 0) (request : Option Request) (text : List ℕ) (old mid new : World) → WritesOutputs told request old mid → SentPart told Report text mid new → WritesOutputs told request old new
sent_part_writes told request text old mid new before sent = record { output = λ p writing. before.output p (sym (ap (λ (f : Port → Begun). f p) sent.part.1.begun) ∙ writing) }

-- ---- what is begun for writing, step by step

pub begins_none : (Is : Port → Type 0) (w : World) → BeginsWriting Is w w
begins_none Is w = record { writers = λ p writing. inl writing }

-- then one of the ports was begun
begins_one : (Is : Port → Type 0) (port : Port) (w v u : World) → BeginsWriting Is w v → u.begun ≡ put port Writing v.begun → Is port → BeginsWriting Is w u
begins_one Is port w v u before begun is = record { writers = λ p writing. by p (stands_after port Writing Writing v u begun p writing) }
  where
    by : (p : Port) → (v.begun p ≡ Writing) ⊎ (p ≡ port) → (w.begun p ≡ Writing) ⊎ Is p
    by p (inl was) = before.writers p was
    by p (inr here) = inr (subst Is (sym here) is)

-- then a port was sealed
begins_less : (Is : Port → Type 0) (port : Port) (w v u : World) → BeginsWriting Is w v → u.begun ≡ put port Idle v.begun → BeginsWriting Is w u
begins_less Is port w v u before begun = record { writers = λ p writing. before.writers p (stood_before port Idle Writing v u (λ e. absurd (cc)) begun p writing) }

-- then no port was begun or sealed
begins_same : (Is : Port → Type 0) (w v u : World) → BeginsWriting Is w v → u.begun ≡ v.begun → BeginsWriting Is w u
begins_same Is w v u before same = record { writers = λ p writing. before.writers p (sym (ap (λ (f : Port → Begun). f p) same) ∙ writing) }

model_begins : (told : Type 0) (Is : Port → Type 0) (name : List ℕ) (w v : World) → Started told Model name w v → Is Model → BeginsWriting Is w v
model_begins told Is name w v first is = begins_one Is Model w w v (begins_none Is w) first.begun is

pub none_begins : (told : Type 0) (Is : Port → Type 0) (w v : World) → NotWritten told w v → BeginsWriting Is w v
none_begins told Is w v failed = begins_same Is w w v (begins_none Is w) failed.begun

-- ---- a model alone

pub model_front_begins : (told : Type 0) (name text : List ℕ) (w v u : World) → Started told Model name w v → SentFront told Model text v u → BeginsWriting (IsAt Model) w u
model_front_begins told name text w v u first front = begins_same (IsAt Model) w v u (model_begins told (IsAt Model) name w v first refl) front.front.1.begun

model_sent_begins : (told : Type 0) (name text : List ℕ) (w v u : World) → Started told Model name w v → Sent told Model text v u → BeginsWriting (IsAt Model) w u
model_sent_begins told name text w v u first second = begins_same (IsAt Model) w v u (model_begins told (IsAt Model) name w v first refl) second.begun

pub model_unsealed_begins : (told : Type 0) (name text : List ℕ) (w v u x : World) → Started told Model name w v → Sent told Model text v u → NotWritten told u x → BeginsWriting (IsAt Model) w x
model_unsealed_begins told name text w v u x first second failed = begins_same (IsAt Model) w u x (model_sent_begins told name text w v u first second) failed.begun

pub model_sealed_begins : (told : Type 0) (name text : List ℕ) (w v u x : World) → Started told Model name w v → Sent told Model text v u → Sealed told Model u x → BeginsWriting (IsAt Model) w x
model_sealed_begins told name text w v u x first second third = begins_less (IsAt Model) Model w u x (model_sent_begins told name text w v u first second) third.begun

-- ---- a model and a proof

pub one_begins : (told : Type 0) (name : List ℕ) (w v u : World) → Started told Model name w v → NotWritten told v u → BeginsWriting IsModelOrProof w u
one_begins told name w v u first failed = begins_same IsModelOrProof w v u (model_begins told IsModelOrProof name w v first (inl refl)) failed.begun

pub two_begin : (told : Type 0) (name proof : List ℕ) (w v u : World) → Started told Model name w v → Started told Proof proof v u → BeginsWriting IsModelOrProof w u
two_begin told name proof w v u first second = begins_one IsModelOrProof Proof w v u (model_begins told IsModelOrProof name w v first (inl refl)) second.begun (inr refl)

pub both_begin : (told : Type 0) (Is : Port → Type 0) (lists : Lists) (text : List ℕ) (w v u : World) → BeginsWriting Is w v → SentBoth told lists text v u → BeginsWriting Is w u
both_begin told Is lists text w v u before sent = begins_less Is Proof w sent.between u (begins_less Is Model w v sent.between before sent.model.begun) sent.proof.begun

pub part_begins : (told : Type 0) (Is : Port → Type 0) (IsText : List ℕ → Type 0) (lists : Lists) (w v u : World) → BeginsWriting Is w v → StopsWriting told IsText lists v u → BeginsWriting Is w u
part_begins told Is IsText lists w v u before (inl same) = subst (BeginsWriting Is w) (sym same) before
part_begins told Is IsText lists w v u before (inr part) = by part.sent
  where
    by : SentFront told Model (model_text lists) v u ⊎ SentFrontBehind told lists part.text v u → BeginsWriting Is w u
    by (inl front) = begins_same Is w v u before front.front.1.begun
    by (inr behind) = begins_same Is w behind.between u (begins_less Is Model w v behind.between before behind.model.begun) behind.proof.front.1.begun

-- the ports of a model and of a proof
pub of_both : (m p : List ℕ) (port : Port) → IsModelOrProof port → IsWritePort (model_and_proof m p) port
of_both m p port (inl e) = inl e
of_both m p port (inr e) = inr (inl e)

pub begins_more : (Is More : Port → Type 0) (w v : World) → ((p : Port) → Is p → More p) → BeginsWriting Is w v → BeginsWriting More w v
begins_more Is More w v more begins = record { writers = λ p writing. by p (begins.writers p writing) }
  where
    by : (p : Port) → (w.begun p ≡ Writing) ⊎ Is p → (w.begun p ≡ Writing) ⊎ More p
    by p (inl was) = inl was
    by p (inr is) = inr (more p is)
