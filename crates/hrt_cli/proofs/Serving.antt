-- A command that was carried out up to its report, or given up, by what it read and what it wrote.
use Rattle.std.specs.Prelude.{IsSomeAnd, is_none}
use Rattle.std.proofs.Common.{◌≡◌, ◌⊎◌, ◌==◌, ◌||◌, ℕ, Bool, false, cond, List, [], ◌∷◌, ◌++◌, Option, Some, None, Result, Ok, Err, IfErr, IfOk, OnOk, IfSome, IsTrue, refl, sym, ◌∙◌, ap, subst, inl, inr}
use Rattle.std.specs.List.{list_any}
use Rattle.std.proofs.lemmas.Bool.{cases_eq, or_right}
use Rattle.hrt_base.specs.declared.port.Port.{Port}
use Rattle.hrt_base.specs.declared.port.Port.TheVariants.{Report}
use Rattle.hrt_base.specs.declared.host.Begun.TheVariants.{Reading, Writing}
use Rattle.hrt_base.specs.Calls.{Rose}
use Rattle.hrt_base.specs.World.{World, Content, port_no}
use Rattle.hrt_base.proofs.Pieces.{port_no-injective}
use Rattle.hrt_inputs.specs.declared.stop.Stop.{Stop}
use Rattle.hrt_inputs.specs.Inputs.{BeginsAtMost, IsAt, KeepsPorts, OnlyRead}
use Rattle.hrt_inputs.specs.Rejections.{Rejection, refused, exceeded, pairs_refused, model_refused, proof_refused, truncated}
use Rattle.hrt_inputs.proofs.KeptPorts.{keeps_all, keeps_fewer, keeps_then}
use Rattle.hrt_inputs.proofs.Ports.{put_elsewhere}
use Rattle.hrt_cli.specs.declared.answer.Answer.{Answer}
use Rattle.hrt_cli.specs.declared.status.Status.{Status}
use Rattle.hrt_cli.specs.declared.stop.Ended.{Ended}
use Rattle.hrt_cli.specs.declared.stop.Ended.TheVariants as ended
use Rattle.hrt_cli.specs.Answers.{EndsEarly, EndsFor, Explains, IsAnswer, IsWorked, LeavesFronts, PassedAt, Serves, rejection_of}
use Rattle.hrt_cli.specs.Outcomes.{AreTexts, Comes, ComesTo, Outcome, rejected}
use Rattle.hrt_cli.specs.Outputs.{Output, files_after, outputs_of, outputs_with}
use Rattle.hrt_cli.specs.Plans.{AreSome, AreTaken, Files, Input, IsInputPort, IsReadPort, IsWritePort, Named, ReadsTo, Value, plan_of}
use Rattle.hrt_cli.specs.Ports.{BeginsWriting, IsPortOf}
use Rattle.hrt_cli.specs.Requests.{Request}
use Rattle.hrt_cli.specs.Statuses.{code_of, is_code_among, is_told_of, refusals_of, rejection_status, statuses_of}
use Rattle.hrt_cli.specs.Writing.{EndsWriting, Writes, WritesAll, WritesFronts, WritesInPart, WritesNothing}
use Rattle.hrt_cli.proofs.BegunOutputs.{nothing_done}
use Rattle.hrt_cli.proofs.BegunPorts.{begins_none, read_by, stands_after}
use Rattle.hrt_cli.proofs.Inputs.{any_input, input_of_more, input_port, read_port, read_port_of_more, reads_on}
use Rattle.hrt_cli.proofs.Loads.{RejectsInput, StopsInput}
use Rattle.hrt_cli.proofs.Reading.{HasRead, file_read, then_only_read}
use Rattle.hrt_cli.proofs.Runs.{file_before, leaves_nothing, name_before, nothing_after, nothing_due, report_open, sent_before, writes_report}

-- ---- an input that could not be had

abbrev no_outputs : List Output
no_outputs = []

pub without_texts : (outputs : List Named) → outputs_with outputs [] ≡ no_outputs
without_texts [] = refl
without_texts (o ∷ outputs) = refl

not_misused : (rejection : Rejection) → (code_of (rejection_status rejection) == 2) ≡ false
not_misused (refused r) = refl
not_misused (exceeded limit) = refl
not_misused (pairs_refused r) = refl
not_misused (model_refused kind line) = refl
not_misused (proof_refused r) = refl
not_misused truncated = refl

-- what is told of one of its files is told of a command
told_of_file : (request : Option Request) (before after : List Input) (i : Input) (rejection : Rejection) → (plan_of request).inputs ≡ before ++ i ∷ after
    → IsTrue (is_code_among (refusals_of i.kind) (code_of (rejection_status rejection))) → IsTrue (is_told_of request (code_of (rejection_status rejection)))
told_of_file request before after i rejection split is =
    let n = code_of (rejection_status rejection) in
    let any = subst (λ (is : List Input). IsTrue (list_any (λ i. is_code_among (refusals_of i.kind) n) is)) (sym split) (any_input (λ i. is_code_among (refusals_of i.kind) n) before after i is) in
    ap (λ (b : Bool). cond b (is_none request) (is_code_among (statuses_of (plan_of request).job) n || list_any (λ i. is_code_among (refusals_of i.kind) n) (plan_of request).inputs)) (not_misused rejection)
    ∙ or_right (is_code_among (statuses_of (plan_of request).job) n) _ any

module _ (told : Type 0) (request : Option Request) (before after : List Input) (i : Input) (values : List Value) (stop : Stop) (old mid new : World) (split : (plan_of request).inputs ≡ before ++ i ∷ after)
    (read : HasRead told before values old mid) (stops : StopsInput told i values stop mid new) where
  only : OnlyRead told old new
  only = then_only_read told old mid new read.only_read stops.only_read

  -- what was read up to the file that isn't taken
  abbrev comes_to_rejection : (rejection : Rejection) → RejectsInput told i values rejection mid new → told → ComesTo (plan_of request) old.content.file (rejected rejection)
  comes_to_rejection rejection rejects t =
      let text = rejects.reads t in
      record {
        read = Err rejection;
        reads = subst (λ (is : List Input). ReadsTo is old.content.file [] (Err rejection)) (sym split)
            (reads_on before (i ∷ after) old.content.file [] values (Err rejection) (read.reads t) (text.0, file_read told i.name text.0 old mid read.only_read t text.1, inl (rejection, text.2, refl)));
        comes = refl;
      }

  out_of : (rejection : Rejection) → RejectsInput told i values rejection mid new → told → (p : Port) → new.begun p ≡ Reading → (new.content.rest p ≡ []) ⊎ PassedAt (Err rejection) p
  out_of rejection rejects t p reading = elim (cases_eq (port_no p) (port_no i.port)) [
    | inl same ↦ subst (λ (q : Port). (new.content.rest q ≡ []) ⊎ PassedAt (Err rejection) q) (sym (port_no-injective p i.port same)) (rejects.out t)
    | inr other ↦ inl (ap (λ (c : Content). c.rest p) (rejects.content t) ∙ put_elsewhere i.port (new.content.rest i.port) mid.content.rest p other
        ∙ read.rest t p (was p other (stands_after i.port Reading Reading mid new rejects.begun p reading)))
  ]
    where
      was : (p : Port) → (port_no p ≡ port_no i.port → ⊥) → (mid.begun p ≡ Reading) ⊎ (p ≡ i.port) → mid.begun p ≡ Reading
      was p other (inl e) = e
      was p other (inr here) = absurd (other (ap port_no here))

  rejection_worked : (rejection : Rejection) (answer : Answer) → RejectsInput told i values rejection mid new → IsAnswer (rejected rejection) answer → IsWorked told request answer old new
  rejection_worked rejection answer rejects answered = record {
    no_fault = record { read_faults = rejects.read_faults ∙ read.read_faults; write_faults = only.write_faults };
    open_report = (only.writers Report).1 (report_open told old read.start);
    others = λ p writing. writes_report told old read.start p ((only.writers p).0 writing);
    suits = subst (λ (s : Status). IsTrue (is_told_of request (code_of s))) (sym answered.status) (told_of_file request before after i rejection split rejects.told_of);
    due = λ t. record {
      outcome = rejected rejection;
      due = comes_to_rejection rejection rejects t;
      answered = answered;
      read_out = out_of rejection rejects t;
      sends = nothing_due (outputs_of request []) old.content new.content (without_texts (plan_of request).outputs) (sent_before told old new read.start only t) (file_before told old new only t);
      silent = sent_before told old new read.start only t Report;
      unnamed = name_before told old new read.start only t;
    };
  }

  explained : (o : Option Rejection) (answer : Answer) → IfSome o (λ rejection. RejectsInput told i values rejection mid new) → IsSomeAnd o (λ rejection. IsAnswer (rejected rejection) answer) → IsWorked told request answer old new
  explained None answer rejects tells = absurd tells
  explained (Some rejection) answer rejects tells = rejection_worked rejection answer rejects tells

  worked : (r : Result Answer Ended) → IfOk r (Explains stop) → IfOk r (λ answer. IsWorked told request answer old new)
  worked (Ok answer) tells = explained (rejection_of stop) answer stops.rejects tells
  worked (Err why) tells = tt

  given_up : (r : Result Answer Ended) → IfErr r (EndsFor stop) → IfErr r (λ why. EndsEarly told request why old new)
  given_up (Ok answer) ends = tt
  given_up (Err ended.ReadFault) ends = record {
    rose = subst (λ (n : ℕ). Rose n new.read_faults) read.read_faults (stops.fault ends);
    writers = λ p writing. port_no-injective p Report (writes_report told old read.start p ((only.writers p).0 writing));
    nothing = nothing_after told old new read.start only;
  }
  given_up (Err ended.WriteFault) ends = absurd ends
  given_up (Err ended.NoMemory) ends = leaves_nothing told request old new read.start only

  -- the command tells why, or is given up
  pub stopped : (r : Result Answer Ended) → BeginsAtMost i.port mid new → KeepsPorts told (IsAt i.port) mid new → IfOk r (Explains stop) → IfErr r (EndsFor stop) → Serves told request r old new
  stopped r begun keeps tells ends = record {
    worked = worked r tells;
    ended = given_up r ends;
    inputs = record { input = λ p reading. subst (λ (is : List Input). IsInputPort told [] is old.content.file p) (sym split) (reader p (read_by i.port mid new begun.begun p reading)) };
    outputs = record { output = λ p writing. inl (port_no-injective p Report (writes_report told old read.start p ((only.writers p).0 writing))) };
    others = record {
      others = keeps_then told (IsPortOf request) old mid new (keeps_fewer told (IsReadPort before) (IsPortOf request) old mid (λ p is. used p (read_port_of_more before (i ∷ after) p is)) read.others)
          (keeps_fewer told (IsAt i.port) (IsPortOf request) mid new (λ p here. used p (subst (IsReadPort (before ++ i ∷ after)) (sym here) (read_port before after i))) keeps);
    };
  }
    where
      reader : (p : Port) → (mid.begun p ≡ Reading) ⊎ (p ≡ i.port) → IsInputPort told [] (before ++ i ∷ after) old.content.file p
      reader p (inl was) = input_of_more told [] before (i ∷ after) old.content.file p (read.readers p was)
      reader p (inr here) = subst (IsInputPort told [] (before ++ i ∷ after) old.content.file) (sym here) (input_port told before after i old.content.file (λ t. record { values = values; reads = read.reads t }))

      used : (p : Port) → IsReadPort (before ++ i ∷ after) p → IsPortOf request p
      used p is = inl (subst (λ (is : List Input). IsReadPort is p) (sym split) is)

-- ---- what is done once the inputs are taken

-- the job comes to this answer, and the outputs that are due were written
pub record IsFinished (told : Type 0) (request : Option Request) (values : List Value) (answer : Answer) (mid new : World) : Type 0 where
  pub outcome : Outcome
  pub comes : Comes (plan_of request).job values outcome
  pub suits : IsTrue (is_told_of request (code_of outcome.status))
  pub answered : IsAnswer outcome answer
  pub writes : WritesAll told (outputs_of request outcome.texts) mid new

-- fronts were written of texts that the job writes
pub record WritesPart (told : Type 0) (request : Option Request) (values : List Value) (mid new : World) : Type 0 where
  pub texts : List (List ℕ)
  pub are : AreTexts (plan_of request).job values texts
  pub fronts : WritesFronts told (outputs_of request texts) mid new

-- nothing was written, or fronts
abbrev pub IsInPart : (told : Type 0) → Option Request → List Value → World → World → Type 0
IsInPart told request values mid new = WritesNothing told mid new ⊎ WritesPart told request values mid new

-- a write failed at one of the outputs
pub record FailsInPart (told : Type 0) (request : Option Request) (values : List Value) (mid new : World) : Type 0 where
  pub some : AreSome (plan_of request).outputs
  pub rose : Rose mid.write_faults new.write_faults
  pub part : IsInPart told request values mid new

-- the job was given up
abbrev pub IsGivenUp : (told : Type 0) → Option Request → List Value → Ended → World → World → Type 0
IsGivenUp told request values ended.ReadFault mid new = ⊥
IsGivenUp told request values ended.WriteFault mid new = FailsInPart told request values mid new
IsGivenUp told request values ended.NoMemory mid new = IsInPart told request values mid new

module _ (told : Type 0) (request : Option Request) (values : List Value) (old mid new : World) (read : HasRead told (plan_of request).inputs values old mid) where
  abbrev comes_to : (due : Outcome) → Comes (plan_of request).job values due → told → ComesTo (plan_of request) old.content.file due
  comes_to due comes t = record { read = Ok values; reads = read.reads t; comes = comes }

  -- what was read stays read to its end
  read_whole : (sent kept : List Output) → Writes told sent kept mid new → told → (p : Port) → new.begun p ≡ Reading → new.content.rest p ≡ []
  read_whole sent kept writes t p reading = (writes.content t).rest p ∙ read.rest t p (writes.readers p reading)

  sent_now : (sent kept : List Output) → Writes told sent kept mid new → told → new.content.sent Report ≡ []
  sent_now sent kept writes t = (writes.content t).silent ∙ sent_before told old mid read.start read.only_read t Report

  files_now : (sent kept : List Output) → Writes told sent kept mid new → told → (name : List ℕ) → new.content.file name ≡ files_after kept old.content.file name
  files_now sent kept writes t name = (writes.content t).files name ∙ ap (λ (f : Files). files_after kept f name) (ap (λ (c : Content). c.file) (read.only_read.content t))

  -- each output was written whole
  finished : (answer : Answer) → IsFinished told request values answer mid new → IsWorked told request answer old new
  finished answer is =
      let only = read.only_read in
      let writes = is.writes.writes in
      let outputs : List Output = outputs_of request is.outcome.texts in
      record {
        no_fault = record { read_faults = is.writes.no_fault.read_faults ∙ read.read_faults; write_faults = is.writes.no_fault.write_faults ∙ only.write_faults };
        open_report = writes.report ∙ (only.writers Report).1 (report_open told old read.start);
        others = λ p writing. writes_report told old read.start p ((only.writers p).0 (is.writes.writers p writing));
        suits = subst (λ (s : Status). IsTrue (is_told_of request (code_of s))) (sym is.answered.status) is.suits;
        due = λ t. record {
          outcome = is.outcome;
          due = comes_to is.outcome is.comes t;
          answered = is.answered;
          read_out = λ p reading. inl (read_whole outputs outputs writes t p reading);
          sends = record {
            sent = λ p other. (writes.content t).sent_is (sent_before told old mid read.start only t) p;
            files = files_now outputs outputs writes t;
          };
          silent = sent_now outputs outputs writes t;
          unnamed = (writes.content t).name ∙ name_before told old mid read.start only t;
        };
      }

  left : IsInPart told request values mid new → told → LeavesFronts request old.content new.content
  left (inl nothing) t = record {
    silent = sent_now [] [] nothing t;
    sends = inl (record { sent = (nothing.content t).sent_is (sent_before told old mid read.start read.only_read t); files = files_now [] [] nothing t });
  }
  left (inr part) t = record {
    silent = sent_now _ _ part.fronts.writes t;
    sends = inr (record {
      texts = part.texts;
      due = record { values = values; reads = read.reads t; are = part.are };
      sends = record {
        whole = part.fronts.whole;
        count = part.fronts.count;
        sent = λ p other. (part.fronts.writes.content t).sent_is (sent_before told old mid read.start read.only_read t) p;
        files = files_now _ _ part.fronts.writes t;
      };
    });
  }

  part_read : IsInPart told request values mid new → told → (p : Port) → new.begun p ≡ Reading → new.content.rest p ≡ []
  part_read (inl nothing) t = read_whole [] [] nothing t
  part_read (inr part) t = read_whole _ _ part.fronts.writes t

  part_readers : IsInPart told request values mid new → (p : Port) → new.begun p ≡ Reading → mid.begun p ≡ Reading
  part_readers (inl nothing) = nothing.readers
  part_readers (inr part) = part.fronts.writes.readers

  job_worked : (r : Result Answer Ended) → IfOk r (λ answer. IsFinished told request values answer mid new) → IfOk r (λ answer. IsWorked told request answer old new)
  job_worked (Ok answer) is = finished answer is
  job_worked (Err why) is = tt

  job_ended : (r : Result Answer Ended) → IfErr r (λ why. IsGivenUp told request values why mid new) → IfErr r (λ why. EndsEarly told request why old new)
  job_ended (Ok answer) up = tt
  job_ended (Err ended.ReadFault) up = absurd up
  job_ended (Err ended.WriteFault) up = record {
    rose = subst (λ (n : ℕ). Rose n new.write_faults) read.only_read.write_faults up.rose;
    cut_short = λ t. inl (record { has_outputs = (up.some, record { values = values; reads = read.reads t }); read_out = part_read up.part t; leaves = left up.part t });
  }
  job_ended (Err ended.NoMemory) up = left up

  job_readers : (r : Result Answer Ended) → IfOk r (λ answer. IsFinished told request values answer mid new) → IfErr r (λ why. IsGivenUp told request values why mid new) → (p : Port) → new.begun p ≡ Reading → mid.begun p ≡ Reading
  job_readers (Ok answer) is up = is.writes.writes.readers
  job_readers (Err ended.ReadFault) is up = absurd up
  job_readers (Err ended.WriteFault) is up = part_readers up.part
  job_readers (Err ended.NoMemory) is up = part_readers up

  pub served : (r : Result Answer Ended) → BeginsWriting (IsWritePort (plan_of request).outputs) mid new → KeepsPorts told (IsWritePort (plan_of request).outputs) mid new
      → IfOk r (λ answer. IsFinished told request values answer mid new) → IfErr r (λ why. IsGivenUp told request values why mid new) → Serves told request r old new
  served r begins keeps is up = record {
    worked = job_worked r is;
    ended = job_ended r up;
    inputs = record { input = λ p reading. read.readers p (job_readers r is up p reading) };
    outputs = record { output = λ p writing. writer p (begins.writers p writing) };
    others = record {
      others = keeps_then told (IsPortOf request) old mid new (keeps_fewer told (IsReadPort (plan_of request).inputs) (IsPortOf request) old mid (λ p is. inl is) read.others)
          (keeps_fewer told (IsWritePort (plan_of request).outputs) (IsPortOf request) mid new (λ p is. inr (inl is)) keeps);
    };
  }
    where
      writer : (p : Port) → (mid.begun p ≡ Writing) ⊎ IsWritePort (plan_of request).outputs p → (p ≡ Report) ⊎ (IsWritePort (plan_of request).outputs p × (told → AreTaken (plan_of request).inputs old.content.file))
      writer p (inl was) = inl (port_no-injective p Report (writes_report told old read.start p ((read.only_read.writers p).0 was)))
      writer p (inr is) = inr (is, λ t. record { values = values; reads = read.reads t })

-- ---- a command that only reads

nothing_written : (told : Type 0) (outputs : List Output) (w : World) → outputs ≡ [] → WritesAll told outputs w w
nothing_written told outputs w none = subst (λ (os : List Output). WritesAll told os w w) (sym none) (record {
  no_fault = record { read_faults = refl; write_faults = refl };
  writes = nothing_done told w;
  writers = λ p writing. writing;
})

pub answered : (told : Type 0) (request : Option Request) (values : List Value) (due : Outcome) (r : Result Answer Ended) (old mid : World) → HasRead told (plan_of request).inputs values old mid
    → Comes (plan_of request).job values due → IsTrue (is_told_of request (code_of due.status)) → outputs_of request due.texts ≡ [] → IfOk r (IsAnswer due) → IfErr r (λ why. why ≡ ended.NoMemory)
    → Serves told request r old mid
answered told request values due r old mid read comes suits none is wants =
    served told request values old mid mid read r (begins_none (IsWritePort (plan_of request).outputs) mid) (keeps_all told (IsWritePort (plan_of request).outputs) mid) (ok r is) (err r wants)
  where
    ok : (x : Result Answer Ended) → IfOk x (IsAnswer due) → IfOk x (λ answer. IsFinished told request values answer mid mid)
    ok (Ok answer) answered = record { outcome = due; comes = comes; suits = suits; answered = answered; writes = nothing_written told (outputs_of request due.texts) mid none }
    ok (Err why) answered = tt

    err : (x : Result Answer Ended) → IfErr x (λ why. why ≡ ended.NoMemory) → IfErr x (λ why. IsGivenUp told request values why mid mid)
    err (Ok answer) e = tt
    err (Err why) e = subst (λ (w : Ended). IsGivenUp told request values w mid mid) (sym e) (inl (nothing_done told mid))

-- ---- a command whose outputs are known before they are written

pub wrote : (told : Type 0) (request : Option Request) (values : List Value) (due : Outcome) (r : Result Answer Ended) (old mid new : World) → HasRead told (plan_of request).inputs values old mid
    → Comes (plan_of request).job values due → AreTexts (plan_of request).job values due.texts → IsTrue (is_told_of request (code_of due.status)) → AreSome (plan_of request).outputs → BeginsWriting (IsWritePort (plan_of request).outputs) mid new
    → KeepsPorts told (IsWritePort (plan_of request).outputs) mid new → IfOk r (IsAnswer due) → OnOk r (WritesAll told (outputs_of request due.texts) mid new)
    → IfErr r (λ why. EndsWriting told (outputs_of request due.texts) why mid new) → Serves told request r old new
wrote told request values due r old mid new read comes are suits some begins keeps is saved up = served told request values old mid new read r begins keeps (ok r is saved) (err r up)
  where
    ok : (x : Result Answer Ended) → IfOk x (IsAnswer due) → OnOk x (WritesAll told (outputs_of request due.texts) mid new) → IfOk x (λ answer. IsFinished told request values answer mid new)
    ok (Ok answer) answered writes = record { outcome = due; comes = comes; suits = suits; answered = answered; writes = writes }
    ok (Err why) answered writes = tt

    part : WritesInPart told (outputs_of request due.texts) mid new → IsInPart told request values mid new
    part (inl nothing) = inl nothing
    part (inr fronts) = inr (record { texts = due.texts; are = are; fronts = fronts })

    err : (x : Result Answer Ended) → IfErr x (λ why. EndsWriting told (outputs_of request due.texts) why mid new) → IfErr x (λ why. IsGivenUp told request values why mid new)
    err (Ok answer) ends = tt
    err (Err ended.ReadFault) ends = absurd ends
    err (Err ended.WriteFault) ends = record { some = some; rose = ends.rose; part = part ends.part }
    err (Err ended.NoMemory) ends = part ends
