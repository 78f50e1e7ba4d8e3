-- From what a run did to how it ended.
use Rattle.std.specs.Prelude.{Some, is_none, true}
use Rattle.std.proofs.Common.{◌≡◌, ℕ, List, [], ◌++◌, ◌⊎◌, ◌↔◌, take, Option, None, Result, Ok, refl, sym, ◌∙◌, ap, subst, arith, inl, inr, IsTrue, codes}
use Rattle.std.proofs.lemmas.Bool.{cases_eq}
use Rattle.hrt_base.specs.declared.port.Port.{Port}
use Rattle.hrt_base.specs.declared.port.Port.TheVariants.{Report}
use Rattle.hrt_base.specs.declared.host.Begun.{Begun}
use Rattle.hrt_base.specs.declared.host.Begun.TheVariants.{Idle, Reading, Writing}
use Rattle.hrt_base.specs.Calls.{AtStart, SentPart, SentSoFar}
use Rattle.hrt_base.specs.World.{World, Content, port_no, put, store}
use Rattle.hrt_base.proofs.Pieces.{port_no-injective, put_here}
use Rattle.hrt_solve.specs.Writing.{SentWhole}
use Rattle.hrt_inputs.specs.Inputs.{OnlyRead}
use Rattle.hrt_inputs.proofs.Ports.{idle_not_writing, put_elsewhere, reading_not_writing}
use Rattle.hrt_cli.specs.declared.answer.Answer.{Answer}
use Rattle.hrt_cli.specs.declared.status.Status.{Status}
use Rattle.hrt_cli.specs.declared.status.Status.TheVariants.{Misused}
use Rattle.hrt_cli.specs.Answers.{CutShort, EndsEarly, IsReadOut, IsWorked, LeavesFronts, PassedAt, SendsNothing}
use Rattle.hrt_cli.specs.Outputs.{Output, SendsAll, files_after, outputs_of, text_on}
use Rattle.hrt_cli.specs.Reports.{line}
use Rattle.hrt_cli.specs.Plans.{Files, Value, plan_of}
use Rattle.hrt_cli.specs.Statuses.{code_of, is_told_of}
use Rattle.hrt_inputs.specs.Rejections.{Rejection}
use Rattle.hrt_cli.specs.Requests.{Request}
use Rattle.hrt_cli.specs.declared.stop.Ended.{Ended}
use Rattle.hrt_cli.specs.declared.stop.Ended.TheVariants.{WriteFault}
use Rattle.hrt_cli.specs.Runs.{GivenUp, Reported}
use Rattle.hrt_cli.specs.Outcomes.{ComesTo, misused}

-- ---- ports

-- a host at its start writes on the report alone
pub writes_report : (told : Type 0) (w : World) → AtStart told w → (p : Port) → w.begun p ≡ Writing → port_no p ≡ port_no Report
writes_report told w start p writing = elim (cases_eq (port_no p) (port_no Report)) [
  | inl same ↦ same
  | inr other ↦ absurd (idle_not_writing (w.begun p) (ap (λ (f : Port → Begun). f p) start.begun ∙ put_elsewhere Report Writing (λ q. Idle) p other) writing)
]

-- nothing is begun for writing once the report is sealed
closed_after : (told : Type 0) (text : List ℕ) (mid new : World) → ((p : Port) → mid.begun p ≡ Writing → port_no p ≡ port_no Report) → SentWhole told Report text mid new
    → (p : Port) → new.begun p ≡ Writing → ⊥
closed_after told text mid new others sent p writing = elim (cases_eq (port_no p) (port_no Report)) [
  | inl same ↦
      let e : p ≡ Report = port_no-injective p Report same in
      idle_not_writing (new.begun p) (ap (λ (f : Port → Begun). f p) sent.begun ∙ ap (put Report Idle mid.begun) e ∙ put_here Report Idle mid.begun) writing
  | inr other ↦
      let here : mid.begun p ≡ Writing = sym (ap (λ (f : Port → Begun). f p) sent.begun ∙ put_elsewhere Report Idle mid.begun p other) ∙ writing in
      other (others p here)
]

pub idle_not_reading : (b : Begun) → b ≡ Idle → b ≡ Reading → ⊥
idle_not_reading b idle reading = let e : Idle ≡ Reading = sym idle ∙ reading in absurd (cc)

-- a host at its start reads on no port
pub reads_nothing : (told : Type 0) (w : World) → AtStart told w → (p : Port) → w.begun p ≡ Reading → ⊥
reads_nothing told w start p reading = elim (cases_eq (port_no p) (port_no Report)) [
  | inl same ↦
      let e : p ≡ Report = port_no-injective p Report same in
      reading_not_writing (w.begun p) reading (ap (λ (f : Port → Begun). f p) start.begun ∙ ap (put Report Writing (λ q. Idle)) e)
  | inr other ↦ idle_not_reading (w.begun p) (ap (λ (f : Port → Begun). f p) start.begun ∙ put_elsewhere Report Writing (λ q. Idle) p other) reading
]

-- ---- content

-- what reading leaves as it was
pub sent_before : (told : Type 0) (old mid : World) → AtStart told old → OnlyRead told old mid → told → (p : Port) → mid.content.sent p ≡ []
sent_before told old mid start read t p = ap (λ (c : Content). c.sent p) (read.content t) ∙ start.sent t p

pub file_before : (told : Type 0) (old mid : World) → OnlyRead told old mid → told → (name : List ℕ) → mid.content.file name ≡ old.content.file name
file_before told old mid read t name = ap (λ (c : Content). c.file name) (read.content t)

pub name_before : (told : Type 0) (old mid : World) → AtStart told old → OnlyRead told old mid → told → mid.content.name Report ≡ []
name_before told old mid start read t = ap (λ (c : Content). c.name Report) (read.content t) ∙ start.name t

-- the report is begun, and no other port
pub report_open : (told : Type 0) (w : World) → AtStart told w → w.begun Report ≡ Writing
report_open told w start = ap (λ (f : Port → Begun). f Report) start.begun

pub nothing_due : (outputs : List Output) (old mid : Content) → outputs ≡ [] → ((p : Port) → mid.sent p ≡ []) → ((name : List ℕ) → mid.file name ≡ old.file name) → SendsAll outputs old mid
nothing_due outputs old mid none sent files = record {
  sent = λ p other. sent p ∙ ap (text_on p) (sym none);
  files = λ name. files name ∙ ap (λ (os : List Output). files_after os old.file name) (sym none);
}

pub nothing_after : (told : Type 0) (old mid : World) → AtStart told old → OnlyRead told old mid → told → SendsNothing old.content mid.content
nothing_after told old mid start read t = record { sent = sent_before told old mid start read t; files = file_before told old mid read t }

pub leaves_nothing : (told : Type 0) (request : Option Request) (old mid : World) → AtStart told old → OnlyRead told old mid → told → LeavesFronts request old.content mid.content
leaves_nothing told request old mid start read t = record {
  silent = sent_before told old mid start read t Report;
  sends = inl (nothing_after told old mid start read t);
}

-- ---- a report that was sent whole

none_is : (request : Option Request) → is_none request ≡ true → request ≡ None
none_is None e = refl
none_is (Some request) e = absurd (cc)

-- the words ask for nothing where the run is misused
understood : (request : Option Request) (status : Status) → IsTrue (is_told_of request (code_of status)) → (request ≡ None → ⊥) → (status ≡ Misused) ↔ (request ≡ None)
understood request status suits asked =
    (λ e. none_is request (subst (λ (s : Status). IsTrue (is_told_of request (code_of s))) e suits), λ e. absurd (asked e))

whole_sends : (told : Type 0) (text : List ℕ) (outputs : List Output) (old mid new : World) → SendsAll outputs old.content mid.content → mid.content.name Report ≡ [] → SentWhole told Report text mid new → told
    → SendsAll outputs old.content new.content
whole_sends told text outputs old mid new sends unnamed sent t = record {
  sent = λ p other.
      ap (λ (c : Content). c.sent p) (sent.content t)
      ∙ put_elsewhere Report (mid.content.sent Report ++ text) mid.content.sent p other
      ∙ sends.sent p other;
  files = λ name.
      ap (λ (c : Content). c.file name) (sent.content t)
      ∙ ap (λ (n : List ℕ). store n (put Report (mid.content.sent Report ++ text) mid.content.sent Report) mid.content.file name) unnamed
      ∙ sends.files name;
}

whole_text : (told : Type 0) (text : List ℕ) (mid new : World) → mid.content.sent Report ≡ [] → SentWhole told Report text mid new → told → new.content.sent Report ≡ text
whole_text told text mid new silent sent t = ap (λ (c : Content). c.sent Report) (sent.content t) ∙ ap (λ (l : List ℕ). l ++ text) silent

whole_read_out : (told : Type 0) (text : List ℕ) (mid new : World) (v : Result (List Value) Rejection) → SentWhole told Report text mid new → told → IsReadOut v mid → IsReadOut v new
whole_read_out told text mid new v sent t out p reading = elim (cases_eq (port_no p) (port_no Report)) [
  | inl same ↦
      let e : p ≡ Report = port_no-injective p Report same in
      absurd (idle_not_reading (new.begun p) (ap (λ (f : Port → Begun). f p) sent.begun ∙ ap (put Report Idle mid.begun) e ∙ put_here Report Idle mid.begun) reading)
  | inr other ↦
      let here : mid.begun p ≡ Reading = sym (ap (λ (f : Port → Begun). f p) sent.begun ∙ put_elsewhere Report Idle mid.begun p other) ∙ reading in
      subst (λ (l : List ℕ). (l ≡ []) ⊎ PassedAt v p) (sym (ap (λ (c : Content). c.rest p) (sent.content t))) (out p here)
]

pub whole_reported : (told : Type 0) (request : Option Request) (answer : Answer) (old mid new : World) → IsWorked told request answer old mid
    → SentWhole told Report answer.report mid new → (request ≡ None → ⊥) → Reported told request answer.status old new
whole_reported told request answer old mid new worked sent asked = record {
  understood = understood request answer.status worked.suits asked;
  suits = worked.suits;
  no_fault = record { read_faults = sent.read_faults ∙ worked.no_fault.read_faults; write_faults = sent.write_faults ∙ worked.no_fault.write_faults };
  closed = closed_after told answer.report mid new worked.others sent;
  reported = λ t. let due = worked.due t in record {
    outcome = due.outcome;
    due = due.due;
    answered = due.answered.status;
    report = whole_text told answer.report mid new due.silent sent t ∙ due.answered.report;
    read_out = whole_read_out told answer.report mid new due.due.read sent t due.read_out;
    sends = whole_sends told answer.report (outputs_of request due.outcome.texts) old mid new due.sends due.unnamed sent t;
  };
}

-- ---- a report of which a front was sent

part_sends : (told : Type 0) (text : List ℕ) (outputs : List Output) (old mid new : World) → SendsAll outputs old.content mid.content → SentSoFar told Report text mid new → told
    → SendsAll outputs old.content new.content
part_sends told text outputs old mid new sends sent t = record {
  sent = λ p other.
      ap (λ (c : Content). c.sent p) (sent.content t)
      ∙ put_elsewhere Report (mid.content.sent Report ++ text) mid.content.sent p other
      ∙ sends.sent p other;
  files = λ name. ap (λ (c : Content). c.file name) (sent.content t) ∙ sends.files name;
}

part_text : (told : Type 0) (text : List ℕ) (mid new : World) → mid.content.sent Report ≡ [] → SentSoFar told Report text mid new → told → new.content.sent Report ≡ text
part_text told text mid new silent sent t = ap (λ (c : Content). c.sent Report) (sent.content t) ∙ ap (λ (l : List ℕ). l ++ text) silent

part_read_out : (told : Type 0) (text : List ℕ) (mid new : World) (v : Result (List Value) Rejection) → SentSoFar told Report text mid new → told → IsReadOut v mid → IsReadOut v new
part_read_out told text mid new v sent t out p reading =
    let here : mid.begun p ≡ Reading = sym (ap (λ (f : Port → Begun). f p) sent.begun) ∙ reading in
    subst (λ (l : List ℕ). (l ≡ []) ⊎ PassedAt v p) (sym (ap (λ (c : Content). c.rest p) (sent.content t))) (out p here)

pub cut_short : (told : Type 0) (request : Option Request) (answer : Answer) (old mid new : World) → IsWorked told request answer old mid
    → SentPart told Report answer.report mid new → GivenUp told request WriteFault old new
cut_short told request answer old mid new worked part = record { understood = λ e. refl; ends = cut }
  where
    cut : CutShort told request old new
    cut = record {
      rose = let rose = part.rose in let before = worked.no_fault.write_faults in omega arith;
      cut_short = λ t.
          let due = worked.due t in
          let sends = part_sends told (take part.part.0 answer.report) (outputs_of request due.outcome.texts) old mid new due.sends part.part.1 t in
          inr (record {
            outcome = due.outcome;
            due = due.due;
            count = part.part.0;
            front = part_text told (take part.part.0 answer.report) mid new due.silent part.part.1 t ∙ ap (take part.part.0) due.answered.report;
            read_out = part_read_out told (take part.part.0 answer.report) mid new due.due.read part.part.1 t due.read_out;
            sends = sends;
          });
    }

-- a command was given up before its report
pub early : (told : Type 0) (request : Option Request) (why : Ended) (old new : World) → (request ≡ None → ⊥) → EndsEarly told request why old new → GivenUp told request why old new
early told request why old new asked ends = record { understood = λ e. absurd (asked e); ends = ends }

-- ---- words that ask for nothing

abbrev asks_nothing : (files : Files) → ComesTo (plan_of None) files misused
asks_nothing files = record { read = Ok []; reads = refl; comes = refl }

nothing_yet : (told : Type 0) (w : World) → AtStart told w → told → SendsAll [] w.content w.content
nothing_yet told w start t = nothing_due [] w.content w.content refl (start.sent t) (λ name. refl)

pub misused_whole : (told : Type 0) (text : List ℕ) (old new : World) → AtStart told old → text ≡ line (codes "words not understood") → SentWhole told Report text old new
    → Reported told None Misused old new
misused_whole told text old new start is sent = record {
  understood = (λ e. refl, λ e. refl);
  suits = refl;
  no_fault = record { read_faults = sent.read_faults; write_faults = sent.write_faults };
  closed = closed_after told text old new (writes_report told old start) sent;
  reported = λ t. record {
    outcome = misused;
    due = asks_nothing old.content.file;
    answered = refl;
    report = whole_text told text old new (start.sent t Report) sent t ∙ is;
    read_out = whole_read_out told text old new (Ok []) sent t (λ p reading. absurd (reads_nothing told old start p reading));
    sends = whole_sends told text [] old old new (nothing_yet told old start t) (start.name t) sent t;
  };
}

pub misused_cut : (told : Type 0) (text : List ℕ) (old new : World) → AtStart told old → text ≡ line (codes "words not understood") → SentPart told Report text old new
    → GivenUp told None WriteFault old new
misused_cut told text old new start is part = record { understood = λ e. refl; ends = cut }
  where
    cut : CutShort told None old new
    cut = record {
      rose = part.rose;
      cut_short = λ t.
          let sends = part_sends told (take part.part.0 text) [] old old new (nothing_yet told old start t) part.part.1 t in
          inr (record {
            outcome = misused;
            due = asks_nothing old.content.file;
            count = part.part.0;
            front = part_text told (take part.part.0 text) old new (start.sent t Report) part.part.1 t ∙ ap (take part.part.0) is;
            read_out = part_read_out told (take part.part.0 text) old new (Ok []) part.part.1 t (λ p reading. absurd (reads_nothing told old start p reading));
            sends = sends;
          });
    }
