-- What the end of a run says of the code that it answers.
use Rattle.std.specs.Prelude.{is_some}
use Rattle.std.proofs.Common.{◌≡◌, ◌⊎◌, ◌==◌, ◌||◌, ◌&&◌, ℕ, zero, suc, Bool, true, false, bytes_eq, List, [], ◌∷◌, take, Option, Some, None, Result, Ok, Err, IsTrue, refl, sym, ◌∙◌, ap, inl, inr, subst}
use Rattle.std.proofs.lemmas.Bool.{or_left, or_right}
use Rattle.hrt_base.specs.declared.port.Port.{Port}
use Rattle.hrt_base.specs.declared.port.Port.TheVariants.{Report}
use Rattle.hrt_base.specs.declared.host.Begun.TheVariants.{Writing}
use Rattle.hrt_base.specs.Calls.{NoFault, Rose}
use Rattle.hrt_base.specs.World.{World, store}
use Rattle.hrt_inputs.specs.Rejections.{Rejection}
use Rattle.hrt_cli.specs.declared.status.Status.{Status}
use Rattle.hrt_cli.specs.declared.status.Status.TheVariants.{Done, Misused, InstanceRefused, LimitExceeded, ProofRefused, AuditNo, Bounded, PairsRefused}
use Rattle.hrt_cli.specs.declared.stop.Ended.{Ended}
use Rattle.hrt_cli.specs.declared.stop.Ended.TheVariants.{ReadFault, WriteFault, NoMemory}
use Rattle.hrt_cli.specs.Answers.{IsCutShort, LeavesFronts, SendsDue, SendsNothing}
use Rattle.hrt_cli.specs.Outcomes.{ComesTo, OnRead, Outcome}
use Rattle.hrt_cli.specs.Outputs.{Output, SendsAll, files_after, outputs_of, outputs_with}
use Rattle.hrt_cli.specs.Plans.{AreTaken, Files, Named, Plan, Value, is_determined, is_named, plan_of}
use Rattle.hrt_cli.specs.Requests.{Request}
use Rattle.hrt_cli.specs.Runs.{EndsAs, Finishes, IsComplete, IsDecided, IsDue, IsReported, NoRise, KeepsFiles, KeepsOtherFiles, has_report, is_code_of, keeps_files}
use Rattle.hrt_cli.specs.Statuses.{code_of, early_code_of, exit_code, is_code_among, is_told_of, statuses_of}
use Rattle.hrt_cli.proofs.NamedOutputs.{not_stored}
use Rattle.hrt_cli.proofs.Once.{of_job, one_told, reads_once}
use Rattle.hrt_cli.proofs.Serving.{without_texts}

-- a status is told by a report
told_by : (status : Status) → has_report (code_of status) ≡ true
told_by Done = refl
told_by Misused = refl
told_by InstanceRefused = refl
told_by LimitExceeded = refl
told_by ProofRefused = refl
told_by AuditNo = refl
told_by Bounded = refl
told_by PairsRefused = refl

-- and by no other code
no_status : (status : Status) (n : ℕ) → has_report n ≡ false → code_of status ≡ n → ⊥
no_status status n e is = let t : true ≡ false = sym (told_by status) ∙ ap has_report is ∙ e in absurd (cc)

module _ (told : Type 0) (request : Option Request) (old new : World) where
  pub read_fault : (e : Result Status Ended) → EndsAs told request e old new → exit_code e ≡ 4 → Rose old.read_faults new.read_faults
  read_fault (Ok status) ends is = absurd (no_status status 4 refl is)
  read_fault (Err ReadFault) ends is = ends.ends.rose
  read_fault (Err WriteFault) ends is = absurd (cc)
  read_fault (Err NoMemory) ends is = absurd (cc)

  pub no_output_begun : (e : Result Status Ended) → EndsAs told request e old new → exit_code e ≡ 4 → (port : Port) → new.begun port ≡ Writing → port ≡ Report
  no_output_begun (Ok status) ends is = absurd (no_status status 4 refl is)
  no_output_begun (Err ReadFault) ends is = ends.ends.writers
  no_output_begun (Err WriteFault) ends is = absurd (cc)
  no_output_begun (Err NoMemory) ends is = absurd (cc)

  pub after_read_fault : (e : Result Status Ended) → EndsAs told request e old new → told → exit_code e ≡ 4 → SendsNothing old.content new.content
  after_read_fault (Ok status) ends t is = absurd (no_status status 4 refl is)
  after_read_fault (Err ReadFault) ends t is = ends.ends.nothing t
  after_read_fault (Err WriteFault) ends t is = absurd (cc)
  after_read_fault (Err NoMemory) ends t is = absurd (cc)

  pub write_fault : (e : Result Status Ended) → EndsAs told request e old new → exit_code e ≡ 5 → Rose old.write_faults new.write_faults
  write_fault (Ok status) ends is = absurd (no_status status 5 refl is)
  write_fault (Err ReadFault) ends is = absurd (cc)
  write_fault (Err WriteFault) ends is = ends.ends.rose
  write_fault (Err NoMemory) ends is = absurd (cc)

  pub after_write_fault : (e : Result Status Ended) → EndsAs told request e old new → told → exit_code e ≡ 5 → IsCutShort request old new
  after_write_fault (Ok status) ends t is = absurd (no_status status 5 refl is)
  after_write_fault (Err ReadFault) ends t is = absurd (cc)
  after_write_fault (Err WriteFault) ends t is = ends.ends.cut_short t
  after_write_fault (Err NoMemory) ends t is = absurd (cc)

  pub after_no_memory : (e : Result Status Ended) → EndsAs told request e old new → told → exit_code e ≡ 6 → LeavesFronts request old.content new.content
  after_no_memory (Ok status) ends t is = absurd (no_status status 6 refl is)
  after_no_memory (Err ReadFault) ends t is = absurd (cc)
  after_no_memory (Err WriteFault) ends t is = absurd (cc)
  after_no_memory (Err NoMemory) ends t is = ends.ends t

  -- ---- a report

  pub closed : (e : Result Status Ended) → EndsAs told request e old new → has_report (exit_code e) ≡ true → (port : Port) → new.begun port ≡ Writing → ⊥
  closed (Ok status) ends has = ends.closed
  closed (Err ReadFault) ends has = absurd (cc)
  closed (Err WriteFault) ends has = absurd (cc)
  closed (Err NoMemory) ends has = absurd (cc)

  pub no_fault : (e : Result Status Ended) → EndsAs told request e old new → has_report (exit_code e) ≡ true → NoFault old new
  no_fault (Ok status) ends has = ends.no_fault
  no_fault (Err ReadFault) ends has = absurd (cc)
  no_fault (Err WriteFault) ends has = absurd (cc)
  no_fault (Err NoMemory) ends has = absurd (cc)

  pub decided : (e : Result Status Ended) → EndsAs told request e old new → told → has_report (exit_code e) ≡ true → IsDecided request (exit_code e) old new
  decided (Ok status) ends t has = record { status = status; code = refl; reported = ends.reported t }
  decided (Err ReadFault) ends t has = absurd (cc)
  decided (Err WriteFault) ends t has = absurd (cc)
  decided (Err NoMemory) ends t has = absurd (cc)

  -- the same, of a code that is that of the end and of a request that is the one that the words spell
  pub decided_as : (e : Result Status Ended) → EndsAs told request e old new → told → (r n : ℕ) → r ≡ exit_code e → r ≡ n → has_report n ≡ true → (ask : Request) → request ≡ Some ask → IsDecided (Some ask) n old new
  decided_as e ends t r n code is has ask asks =
      let here : exit_code e ≡ n = sym code ∙ is in
      subst (λ (q : Option Request). IsDecided q n old new) asks (subst (λ (k : ℕ). IsDecided request k old new) here (decided e ends t (ap has_report here ∙ has)))

  -- without a rise of the counts of faults there is a report, or memory was wanting
  pub reported_or : (e : Result Status Ended) → EndsAs told request e old new → told → NoRise old new → IsDecided request (exit_code e) old new ⊎ (exit_code e ≡ 6)
  reported_or (Ok status) ends t none = inl (record { status = status; code = refl; reported = ends.reported t })
  reported_or (Err ReadFault) ends t none = absurd (none.unread ends.ends.rose)
  reported_or (Err WriteFault) ends t none = absurd (none.unwritten ends.ends.rose)
  reported_or (Err NoMemory) ends t none = inr refl

  -- the report that was sent is that of whatever the words and the files come to
  due_reported : (n : ℕ) → IsTrue (is_determined (plan_of request).job) → IsDecided request n old new → (due : Outcome) → ComesTo (plan_of request) old.content.file due
      → (n ≡ code_of due.status) × (new.content.sent Report ≡ due.report)
  due_reported n determined is due comes =
      let told_of = is.reported in
      let alike = one_told (plan_of request) determined old.content.file told_of.outcome due told_of.due comes in
      (is.code ∙ ap code_of (told_of.answered ∙ alike.status), told_of.report ∙ alike.report)

  pub due : (e : Result Status Ended) → EndsAs told request e old new → told → IsDue request (exit_code e) old new
  due e ends t determined out comes has = due_reported (exit_code e) determined (decided e ends t has) out comes

  pub complete : (e : Result Status Ended) → EndsAs told request e old new → told → IsComplete request (exit_code e) old new
  complete e ends t determined none out comes = elim (reported_or e ends t none) [
    | inl is ↦ inl (due_reported (exit_code e) determined is out comes).0
    | inr wanting ↦ inr wanting
  ]

  -- what is told of inputs that are taken is told of their job
  job_told : (n : ℕ) → IsDecided request n old new → AreTaken (plan_of request).inputs old.content.file → IsTrue (is_code_among (statuses_of (plan_of request).job) n)
  job_told n is taken =
      let told_of = is.reported in
      let comes = subst (λ (r : Result (List Value) Rejection). OnRead (plan_of request).job r told_of.outcome)
      (reads_once (plan_of request).inputs old.content.file [] told_of.due.read (Ok taken.values) told_of.due.reads taken.reads) told_of.due.comes in
      subst (λ (k : ℕ). IsTrue (is_code_among (statuses_of (plan_of request).job) k)) (sym (is.code ∙ ap code_of told_of.answered)) (of_job (plan_of request).job taken.values told_of.outcome comes).status

  pub finishes : (e : Result Status Ended) → EndsAs told request e old new → told → Finishes request (exit_code e) old new
  finishes e ends t none taken = elim (reported_or e ends t none) [
    | inl is ↦ inl (job_told (exit_code e) is taken)
    | inr wanting ↦ inr wanting
  ]

  -- ---- words

  is_misused : (status : Status) → code_of status ≡ 2 → status ≡ Misused
  is_misused Misused e = refl
  is_misused Done e = absurd (cc)
  is_misused InstanceRefused e = absurd (cc)
  is_misused LimitExceeded e = absurd (cc)
  is_misused ProofRefused e = absurd (cc)
  is_misused AuditNo e = absurd (cc)
  is_misused Bounded e = absurd (cc)
  is_misused PairsRefused e = absurd (cc)

  pub misused_code : (e : Result Status Ended) → EndsAs told request e old new → exit_code e ≡ 2 → request ≡ None
  misused_code (Ok status) ends is = ends.understood.0 (is_misused status is)
  misused_code (Err ReadFault) ends is = absurd (cc)
  misused_code (Err WriteFault) ends is = absurd (cc)
  misused_code (Err NoMemory) ends is = absurd (cc)

  pub understood_code : (e : Result Status Ended) → EndsAs told request e old new → request ≡ None → (exit_code e ≡ 2) ⊎ (exit_code e ≡ 5)
  understood_code (Ok status) ends is = inl (ap code_of (ends.understood.1 is))
  understood_code (Err why) ends is = inr (ap early_code_of (ends.understood is))

  asked : (request ≡ None → ⊥) → is_some request ≡ true
  asked other = by request other
    where
      by : (r : Option Request) → (r ≡ None → ⊥) → is_some r ≡ true
      by None h = absurd (h refl)
      by (Some r) h = refl

  pub known : (e : Result Status Ended) → EndsAs told request e old new → is_code_of request (exit_code e) ≡ true
  known (Ok status) ends = or_right (code_of status == 5 || ((code_of status == 4 || code_of status == 6) && is_some request)) (is_told_of request (code_of status)) ends.suits
  known (Err ReadFault) ends = or_left (is_some request) _ (asked (λ e. let no : ReadFault ≡ WriteFault = ends.understood e in absurd (cc)))
  known (Err WriteFault) ends = refl
  known (Err NoMemory) ends = or_left (is_some request) _ (asked (λ e. let no : NoMemory ≡ WriteFault = ends.understood e in absurd (cc)))

-- ---- files

-- no text is due by a code that is told of no output
unwritten : (command : Plan) (files : Files) (due : Outcome) → ComesTo command files due → keeps_files (code_of due.status) ≡ true → due.texts ≡ []
unwritten command files due is keeps = by is.read is.comes
  where
    by : (r : Result (List Value) Rejection) → OnRead command.job r due → due.texts ≡ []
    by (Err rejection) comes = ap (λ (o : Outcome). o.texts) comes
    by (Ok values) comes = (of_job command.job values due comes).unwritten keeps

kept_unwritten : (request : Option Request) (status : Status) (old new : World) → keeps_files (code_of status) ≡ true → IsReported request status old new → KeepsFiles old.content new.content
kept_unwritten request status old new keeps told_of name =
    let none : told_of.outcome.texts ≡ [] = unwritten (plan_of request) old.content.file told_of.outcome told_of.due (ap (λ (s : Status). keeps_files (code_of s)) (sym told_of.answered) ∙ keeps) in
    told_of.sends.files name
    ∙ ap (λ (texts : List (List ℕ)). files_after (outputs_of request texts) old.content.file name) none
    ∙ ap (λ (outputs : List Output). files_after outputs old.content.file name) (without_texts (plan_of request).outputs)

pub files_kept : (told : Type 0) (request : Option Request) (e : Result Status Ended) (old new : World) → EndsAs told request e old new → told → keeps_files (exit_code e) ≡ true → KeepsFiles old.content new.content
files_kept told request (Ok status) old new ends t keeps = kept_unwritten request status old new keeps (ends.reported t)
files_kept told request (Err ReadFault) old new ends t keeps = (ends.ends.nothing t).files
files_kept told request (Err WriteFault) old new ends t keeps = absurd (cc)
files_kept told request (Err NoMemory) old new ends t keeps = absurd (cc)

-- no output has this name
abbrev NoneNamed : List ℕ → List Output → Type 0
NoneNamed name [] = Unit {0}
NoneNamed name (o ∷ outputs) = (bytes_eq name o.name ≡ false) × NoneNamed name outputs

neither : (a b : Bool) → (a || b) ≡ false → (a ≡ false) × (b ≡ false)
neither true b e = absurd (cc)
neither false b e = (refl, e)

unnamed : (outputs : List Named) (texts : List (List ℕ)) (name : List ℕ) → is_named outputs name ≡ false → NoneNamed name (outputs_with outputs texts)
unnamed [] texts name e = tt
unnamed (o ∷ outputs) [] name e = tt
unnamed (o ∷ outputs) (text ∷ texts) name e =
    let apart = neither (bytes_eq name o.name) (is_named outputs name) e in (apart.0, unnamed outputs texts name apart.1)

-- a file that no output names
kept_else : (outputs : List Output) (files : Files) (name : List ℕ) → NoneNamed name outputs → files_after outputs files name ≡ files name
kept_else [] files name none = refl
kept_else (o ∷ outputs) files name none = kept_else outputs (store o.name o.text files) name none.1 ∙ not_stored o.name o.text files name none.0

none_of_first : (k : ℕ) (outputs : List Output) (name : List ℕ) → NoneNamed name outputs → NoneNamed name (take k outputs)
none_of_first zero outputs name none = tt
none_of_first (suc k) [] name none = tt
none_of_first (suc k) (o ∷ outputs) name none = (none.0, none_of_first k outputs name none.1)

kept_left : (request : Option Request) (old new : World) → LeavesFronts request old.content new.content → KeepsOtherFiles request old.content new.content
kept_left request old new left name e = by left.sends
  where
    by : SendsNothing old.content new.content ⊎ SendsDue request old.content new.content → new.content.file name ≡ old.content.file name
    by (inl nothing) = nothing.files name
    by (inr parts) =
        let outputs : List Output = outputs_of request parts.texts in
        parts.sends.files name
        ∙ kept_else (take parts.sends.whole outputs) old.content.file name (none_of_first parts.sends.whole outputs name (unnamed (plan_of request).outputs parts.texts name e))

kept_sent : (request : Option Request) (texts : List (List ℕ)) (old new : World) → SendsAll (outputs_of request texts) old.content new.content → KeepsOtherFiles request old.content new.content
kept_sent request texts old new sends name e = sends.files name ∙ kept_else (outputs_of request texts) old.content.file name (unnamed (plan_of request).outputs texts name e)

kept_cut : (request : Option Request) (old new : World) → IsCutShort request old new → KeepsOtherFiles request old.content new.content
kept_cut request old new (inl before) = kept_left request old new before.leaves
kept_cut request old new (inr report) = kept_sent request report.outcome.texts old new report.sends

pub others_kept : (told : Type 0) (request : Option Request) (e : Result Status Ended) (old new : World) → EndsAs told request e old new → told → KeepsOtherFiles request old.content new.content
others_kept told request (Ok status) old new ends t name e = let told_of = ends.reported t in kept_sent request told_of.outcome.texts old new told_of.sends name e
others_kept told request (Err ReadFault) old new ends t name e = (ends.ends.nothing t).files name
others_kept told request (Err WriteFault) old new ends t name e = kept_cut request old new (ends.ends.cut_short t) name e
others_kept told request (Err NoMemory) old new ends t name e = kept_left request old new (ends.ends t) name e
