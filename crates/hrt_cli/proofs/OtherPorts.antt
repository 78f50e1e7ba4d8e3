-- What a command leaves of the ports that aren't its own.
use Rattle.std.proofs.Common.{◌≡◌, ◌⊎◌, ℕ, List, [], ◌++◌, Option, ◌∙◌, ap, inl, inr}
use Rattle.hrt_base.specs.declared.port.Port.{Port}
use Rattle.hrt_base.specs.declared.port.Port.TheVariants.{Model, Proof, Report}
use Rattle.hrt_base.specs.Calls.{NotWritten, Sealed, Sent, SentFront, SentPart, SentSoFar, Started}
use Rattle.hrt_base.proofs.Pieces.{sent_so_far}
use Rattle.hrt_base.specs.World.{World, Content}
use Rattle.rank_tables.specs.Instance.{Lists}
use Rattle.opb_text.specs.Spelling.{model_text}
use Rattle.hrt_solve.specs.declared.ends.BoundEnd.{BoundEnd}
use Rattle.hrt_solve.specs.declared.ends.SolveEnd.{SolveEnd}
use Rattle.hrt_solve.specs.Writing.{IsBounded, IsSolvedQuickly, SentBoth, SentFrontBehind, SentWhole, StopsWriting}
use Rattle.hrt_inputs.specs.Inputs.{IsAt, KeepsPorts}
use Rattle.hrt_inputs.proofs.KeptPorts.{keeps_all, keeps_fewer, keeps_same, keeps_then, put_at_others}
use Rattle.hrt_cli.specs.Ports.{IsModelOrProof, IsPortOf, KeepsOtherPorts}
use Rattle.hrt_cli.specs.Requests.{Request}

-- one port was used, and then another
then_at : (told : Type 0) (First Then But : Port → Type 0) (old mid new : World) → ((p : Port) → First p → But p) → ((p : Port) → Then p → But p) → KeepsPorts told First old mid → KeepsPorts told Then mid new
    → KeepsPorts told But old new
then_at told First Then But old mid new f g a b = keeps_then told But old mid new (keeps_fewer told First But old mid f a) (keeps_fewer told Then But mid new g b)

-- ---- writing

pub not_written_keeps : (told : Type 0) (But : Port → Type 0) (old new : World) → NotWritten told old new → KeepsPorts told But old new
not_written_keeps told But old new not = keeps_same told But old new not.content

started_keeps : (told : Type 0) (port : Port) (name : List ℕ) (old new : World) → Started told port name old new → KeepsPorts told (IsAt port) old new
started_keeps told port name old new begun = record {
  name = λ t p other. ap (λ (c : Content). c.name p) (begun.content t) ∙ put_at_others port name old.content.name p other;
  rest = λ t p other. ap (λ (c : Content). c.rest p) (begun.content t);
  sent = λ t p other. ap (λ (c : Content). c.sent p) (begun.content t) ∙ put_at_others port [] old.content.sent p other;
}

sent_keeps : (told : Type 0) (port : Port) (bytes : List ℕ) (old new : World) → SentSoFar told port bytes old new → KeepsPorts told (IsAt port) old new
sent_keeps told port bytes old new sent = record {
  name = λ t p other. ap (λ (c : Content). c.name p) (sent.content t);
  rest = λ t p other. ap (λ (c : Content). c.rest p) (sent.content t);
  sent = λ t p other. ap (λ (c : Content). c.sent p) (sent.content t) ∙ put_at_others port (old.content.sent port ++ bytes) old.content.sent p other;
}

sealed_keeps : (told : Type 0) (But : Port → Type 0) (port : Port) (old new : World) → Sealed told port old new → KeepsPorts told But old new
sealed_keeps told But port old new shut = record {
  name = λ t p other. ap (λ (c : Content). c.name p) (shut.content t);
  rest = λ t p other. ap (λ (c : Content). c.rest p) (shut.content t);
  sent = λ t p other. ap (λ (c : Content). c.sent p) (shut.content t);
}

whole_keeps : (told : Type 0) (port : Port) (text : List ℕ) (old new : World) → SentWhole told port text old new → KeepsPorts told (IsAt port) old new
whole_keeps told port text old new sent = record {
  name = λ t p other. ap (λ (c : Content). c.name p) (sent.content t);
  rest = λ t p other. ap (λ (c : Content). c.rest p) (sent.content t);
  sent = λ t p other. ap (λ (c : Content). c.sent p) (sent.content t) ∙ put_at_others port (old.content.sent port ++ text) old.content.sent p other;
}

-- ---- the model alone

pub begun_front_keeps : (told : Type 0) (port : Port) (name text : List ℕ) (old mid new : World) → Started told port name old mid → SentFront told port text mid new → KeepsPorts told (IsAt port) old new
begun_front_keeps told port name text old mid new begun sent =
    keeps_then told (IsAt port) old mid new (started_keeps told port name old mid begun) (sent_keeps told port _ mid new sent.front.1)

pub begun_unsealed_keeps : (told : Type 0) (port : Port) (name text : List ℕ) (old mid far new : World) → Started told port name old mid → Sent told port text mid far → NotWritten told far new → KeepsPorts told (IsAt port) old new
begun_unsealed_keeps told port name text old mid far new begun sent not =
    keeps_then told (IsAt port) old far new (keeps_then told (IsAt port) old mid far (started_keeps told port name old mid begun) (sent_keeps told port text mid far (sent_so_far told port text mid far sent))) (not_written_keeps told (IsAt port) far new not)

pub begun_sealed_keeps : (told : Type 0) (port : Port) (name text : List ℕ) (old mid far new : World) → Started told port name old mid → Sent told port text mid far → Sealed told port far new → KeepsPorts told (IsAt port) old new
begun_sealed_keeps told port name text old mid far new begun sent shut =
    keeps_then told (IsAt port) old far new (keeps_then told (IsAt port) old mid far (started_keeps told port name old mid begun) (sent_keeps told port text mid far (sent_so_far told port text mid far sent))) (sealed_keeps told (IsAt port) port far new shut)

-- ---- the model and a proof

pub one_begun_keeps : (told : Type 0) (name : List ℕ) (old mid new : World) → Started told Model name old mid → NotWritten told mid new → KeepsPorts told IsModelOrProof old new
one_begun_keeps told name old mid new begun not =
    keeps_then told IsModelOrProof old mid new (keeps_fewer told (IsAt Model) IsModelOrProof old mid (λ p e. inl e) (started_keeps told Model name old mid begun)) (not_written_keeps told IsModelOrProof mid new not)

pub two_begun_keep : (told : Type 0) (name proof : List ℕ) (old mid new : World) → Started told Model name old mid → Started told Proof proof mid new → KeepsPorts told IsModelOrProof old new
two_begun_keep told name proof old mid new begun also =
    then_at told (IsAt Model) (IsAt Proof) IsModelOrProof old mid new (λ p e. inl e) (λ p e. inr e) (started_keeps told Model name old mid begun) (started_keeps told Proof proof mid new also)

both_keep : (told : Type 0) (lists : Lists) (text : List ℕ) (old new : World) → SentBoth told lists text old new → KeepsPorts told IsModelOrProof old new
both_keep told lists text old new sent =
    then_at told (IsAt Model) (IsAt Proof) IsModelOrProof old sent.between new (λ p e. inl e) (λ p e. inr e) (whole_keeps told Model (model_text lists) old sent.between sent.model) (whole_keeps told Proof text sent.between new sent.proof)

pub bounded_keeps : (told : Type 0) (lists : Lists) (end : BoundEnd) (old mid new : World) → KeepsPorts told IsModelOrProof old mid → IsBounded told lists end mid new → KeepsPorts told IsModelOrProof old new
bounded_keeps told lists end old mid new a bounded = keeps_then told IsModelOrProof old mid new a (both_keep told lists bounded.proof.text mid new bounded.proof.sent)

pub solved_keeps : (told : Type 0) (lists : Lists) (end : SolveEnd) (old mid new : World) → KeepsPorts told IsModelOrProof old mid → IsSolvedQuickly told lists end mid new → KeepsPorts told IsModelOrProof old new
solved_keeps told lists end old mid new a solved = keeps_then told IsModelOrProof old mid new a (both_keep told lists solved.proof.text mid new solved.proof.sent)

stopped_writing : (told : Type 0) (Is : List ℕ → Type 0) (lists : Lists) (old new : World) → StopsWriting told Is lists old new → KeepsPorts told IsModelOrProof old new
stopped_writing told Is lists old new (inl same) = keeps_same told IsModelOrProof old new (λ t. ap (λ (w : World). w.content) same)
stopped_writing told Is lists old new (inr part) = by part.sent
  where
    by : SentFront told Model (model_text lists) old new ⊎ SentFrontBehind told lists part.text old new → KeepsPorts told IsModelOrProof old new
    by (inl front) = keeps_fewer told (IsAt Model) IsModelOrProof old new (λ p e. inl e) (sent_keeps told Model _ old new front.front.1)
    by (inr behind) =
        then_at told (IsAt Model) (IsAt Proof) IsModelOrProof old behind.between new (λ p e. inl e) (λ p e. inr e) (whole_keeps told Model (model_text lists) old behind.between behind.model)
        (sent_keeps told Proof _ behind.between new behind.proof.front.1)

pub stopped_keeps : (told : Type 0) (Is : List ℕ → Type 0) (lists : Lists) (old mid new : World) → KeepsPorts told IsModelOrProof old mid → StopsWriting told Is lists mid new → KeepsPorts told IsModelOrProof old new
stopped_keeps told Is lists old mid new a stops = keeps_then told IsModelOrProof old mid new a (stopped_writing told Is lists mid new stops)

-- ---- the report

-- the report is a port of whatever is asked
report_is : (request : Option Request) (p : Port) → p ≡ Report → IsPortOf request p
report_is request p e = inr (inr e)

pub report_sent_keeps : (told : Type 0) (request : Option Request) (text : List ℕ) (old mid new : World) → KeepsOtherPorts told request old mid → SentWhole told Report text mid new → KeepsOtherPorts told request old new
report_sent_keeps told request text old mid new a sent =
    record { others = keeps_then told (IsPortOf request) old mid new a.others (keeps_fewer told (IsAt Report) (IsPortOf request) mid new (report_is request) (whole_keeps told Report text mid new sent)) }

pub report_part_keeps : (told : Type 0) (request : Option Request) (text : List ℕ) (old mid new : World) → KeepsOtherPorts told request old mid → SentPart told Report text mid new → KeepsOtherPorts told request old new
report_part_keeps told request text old mid new a sent =
    record { others = keeps_then told (IsPortOf request) old mid new a.others (keeps_fewer told (IsAt Report) (IsPortOf request) mid new (report_is request) (sent_keeps told Report _ mid new sent.part.1)) }

pub nothing_done_keeps : (told : Type 0) (request : Option Request) (w : World) → KeepsOtherPorts told request w w
nothing_done_keeps told request w = record { others = keeps_all told (IsPortOf request) w }
