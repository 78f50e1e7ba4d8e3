-- What a command and the files come to is told in one way, and by a status of its job.
use Rattle.std.specs.Prelude.{IsSomeAnd}
use Rattle.std.proofs.Common.{◌≡◌, ◌⊎◌, ◌==◌, ℕ, Bool, true, false, cond, nat_le, List, [], ◌∷◌, ◌++◌, length, Option, Some, None, Result, Ok, Err, IsTrue, refl, sym, ◌∙◌, ap, subst, arith, inl, inr}
use Rattle.std.proofs.lemmas.Bool.{and_parts, leb-true}
use Rattle.rank_tables.specs.Instance.{Lists, pair_count}
use Rattle.rank_tables.specs.Numbers.{is_in, numbers_to}
use Rattle.rank_tables.specs.Stability.{is_weakly_stable}
use Rattle.rank_tables.specs.Tables.{IsPairNo}
use Rattle.rank_tables.proofs.Numbers.{is_in-numbers_to, same_bools}
use Rattle.stability_model.proofs.SameCounts.{count_same_in}
use Rattle.pb_rows.specs.Formula.{Formula}
use Rattle.promotion_heuristic.specs.Promotion.{promotion}
use Rattle.proof_lines.specs.declared.line.Claim.{Claim}
use Rattle.proof_rules.proofs.Verdicts.{one_verdict}
use Rattle.hrt_solve.specs.Gauged.{AreNumbersOf, bound_claim}
use Rattle.hrt_inputs.specs.Rejections.{Rejection}
use Rattle.hrt_inputs.specs.Taken.{pairs_in}
use Rattle.hrt_cli.specs.declared.status.Status.TheVariants.{Done, AuditNo, Bounded}
use Rattle.hrt_cli.specs.Outcomes.{Comes, ComesTo, Listed, OnRead, Outcome, ProofDue, SolveDue, audited, bounded, checked, claim_of, first_claim, matched, modeled, pairs_of, solved, verified}
use Rattle.hrt_cli.specs.Plans.{Files, Input, IsJudgedAs, Job, Kind, Plan, Reads, ReadsProof, ReadsTo, Value, as_value, formula_among, is_determined, judged_as, listed, lists_of}
use Rattle.hrt_cli.specs.Plans as plan
use Rattle.hrt_cli.specs.Reports.{finding_of}
use Rattle.hrt_cli.specs.Runs.{keeps_files}
use Rattle.hrt_cli.specs.Statuses.{code_of, is_code_among, statuses_of}
use Rattle.hrt_cli.proofs.Inputs.{GoesOn, StopsAt, apart, err_is, ok_is}

pub some_is : {A : Type 0} (a b : A) → Some a ≡ Some b → a ≡ b
some_is a b e = cc

-- ---- what is read

one_judged : (f : Formula) (bytes : List ℕ) (a b : Result Value Rejection) → IsJudgedAs f bytes a → IsJudgedAs f bytes b → a ≡ b
one_judged f bytes a b first second = first.due ∙ ap judged_as (one_verdict f bytes first.judged second.judged first.has second.has) ∙ sym second.due

one_proof : (f : Formula) (bytes : List ℕ) (a b : Result Value Rejection) → ReadsProof f bytes a → ReadsProof f bytes b → a ≡ b
one_proof f bytes a b (inl first) (inl second) = first.1 ∙ sym second.1
one_proof f bytes a b (inl first) (inr second) = absurd (let long = first.0 in let short = second.short in omega arith)
one_proof f bytes a b (inr first) (inl second) = absurd (let long = second.0 in let short = first.short in omega arith)
one_proof f bytes a b (inr first) (inr second) = one_judged f bytes a b first second

-- bytes are read in one way
one_read : (kind : Kind) (before : List Value) (bytes : List ℕ) (a b : Result Value Rejection) → Reads kind before bytes a → Reads kind before bytes b → a ≡ b
one_read plan.instance before bytes a b first second = first ∙ sym second
one_read plan.model before bytes a b first second = first ∙ sym second
one_read plan.pairs before bytes a b first second = by (lists_of before) first second
  where
    by : (o : Option Lists) → IsSomeAnd o (λ l. a ≡ as_value listed (pairs_in l bytes)) → IsSomeAnd o (λ l. b ≡ as_value listed (pairs_in l bytes)) → a ≡ b
    by None x y = absurd x
    by (Some l) x y = x ∙ sym y
one_read plan.proof before bytes a b first second = by (formula_among before) first second
  where
    by : (o : Option Formula) → IsSomeAnd o (λ f. ReadsProof f bytes a) → IsSomeAnd o (λ f. ReadsProof f bytes b) → a ≡ b
    by None x y = absurd x
    by (Some f) x y = one_proof f bytes a b x y

-- and so are inputs
pub reads_once : (inputs : List Input) (files : Files) (before : List Value) (a b : Result (List Value) Rejection) → ReadsTo inputs files before a → ReadsTo inputs files before b → a ≡ b
reads_once [] files before a b x y = x ∙ sym y
reads_once (i ∷ inputs) files before a b x y =
    let same : y.0 ≡ x.0 = some_is y.0 x.0 (sym y.1 ∙ x.1) in
    by x.2 (subst (λ (l : List ℕ). StopsAt i before l b ⊎ GoesOn i inputs files before l b) same y.2) (λ vs u v. reads_once inputs files vs a b u v)
  where
    by : StopsAt i before x.0 a ⊎ GoesOn i inputs files before x.0 a → StopsAt i before x.0 b ⊎ GoesOn i inputs files before x.0 b
        → ((vs : List Value) → ReadsTo inputs files vs a → ReadsTo inputs files vs b → a ≡ b) → a ≡ b
    by (inl p) (inl q) rest =
        let why : p.0 ≡ q.0 = err_is {A = Value} p.0 q.0 (one_read i.kind before x.0 (Err p.0) (Err q.0) p.1 q.1) in
        p.2 ∙ ap (λ (e : Rejection). Err e) why ∙ sym q.2
    by (inl p) (inr q) rest = absurd (apart q.0 p.0 (sym (one_read i.kind before x.0 (Err p.0) (Ok q.0) p.1 q.1)))
    by (inr p) (inl q) rest = absurd (apart p.0 q.0 (one_read i.kind before x.0 (Ok p.0) (Err q.0) p.1 q.1))
    by (inr p) (inr q) rest =
        let value : p.0 ≡ q.0 = ok_is {E = Rejection} p.0 q.0 (one_read i.kind before x.0 (Ok p.0) (Ok q.0) p.1 q.1) in
        rest (before ++ p.0 ∷ []) p.2 (subst (λ (v : Value). ReadsTo inputs files (before ++ v ∷ []) b) (sym value) q.2)

-- ---- numbers

pair_in : (lists : Lists) (p : ℕ) → is_in p (numbers_to (pair_count lists)) ≡ true → IsPairNo lists p
pair_in lists p i =
    let parts = and_parts (nat_le 1 p) (nat_le p (pair_count lists)) (sym (is_in-numbers_to (pair_count lists) p) ∙ i) in
    (leb-true 1 p parts.0, leb-true p (pair_count lists) parts.1)

-- an instance has one number of deleted pairs, and one ceiling
one_deleted : (lists : Lists) (d t e u : ℕ) → AreNumbersOf lists d t → AreNumbersOf lists e u → d ≡ e
one_deleted lists d t e u first second =
    first.deleted_is
    ∙ count_same_in first.gone second.gone (numbers_to (pair_count lists)) (λ p i.
    let no = pair_in lists p i in
    same_bools (first.gone p) (second.gone p) (λ x. second.are.all p (first.are.each p no x)) (λ x. first.are.all p (second.are.each p no x)))
    ∙ sym second.deleted_is

one_ceiling : (lists : Lists) (d t e u : ℕ) → AreNumbersOf lists d t → AreNumbersOf lists e u → t ≡ u
one_ceiling lists d t e u first second = first.ceiling_is.of_each second.gone second.are ∙ sym (second.ceiling_is.of_each second.gone second.are)

-- ---- outcomes that are told alike

-- two outcomes of one status and of one report
pub record AreAlike (a b : Outcome) : Type 0 where
  pub status : a.status ≡ b.status
  pub report : a.report ≡ b.report

same_alike : (due a b : Outcome) → a ≡ due → b ≡ due → AreAlike a b
same_alike due a b x y = record { status = ap (λ (o : Outcome). o.status) (x ∙ sym y); report = ap (λ (o : Outcome). o.report) (x ∙ sym y) }

-- what is told of a proof with these numbers is told of each
abbrev HidesProof : (ℕ → ℕ → List ℕ → Outcome) → Type 0
HidesProof done = (d t : ℕ) (x y : List ℕ) → AreAlike (done d t x) (done d t y)

one_due : (claim : ℕ → Claim) (done : ℕ → ℕ → List ℕ → Outcome) (lists : Lists) (a b : Outcome) → HidesProof done → ProofDue claim done lists a → ProofDue claim done lists b → AreAlike a b
one_due claim done lists a b hides first second =
    let deleted : first.deleted ≡ second.deleted = one_deleted lists first.deleted first.top second.deleted second.top first.numbers second.numbers in
    let top : first.top ≡ second.top = one_ceiling lists first.deleted first.top second.deleted second.top first.numbers second.numbers in
    let alike : AreAlike (done first.deleted first.top first.text) (done second.deleted second.top second.text) =
    subst (λ (n : ℕ). AreAlike (done first.deleted first.top first.text) (done n second.top second.text)) deleted
    (subst (λ (n : ℕ). AreAlike (done first.deleted first.top first.text) (done first.deleted n second.text)) top (hides first.deleted first.top first.text second.text)) in
    subst (λ (o : Outcome). AreAlike o b) (sym first.is) (subst (λ (o : Outcome). AreAlike (done first.deleted first.top first.text) o) (sym second.is) alike)

on_some : {A : Type 0} (o : Option A) (Due : A → Outcome → Type 0) (a b : Outcome) → ((x : A) → Due x a → Due x b → AreAlike a b) → IsSomeAnd o (λ x. Due x a) → IsSomeAnd o (λ x. Due x b) → AreAlike a b
on_some None Due a b one first second = absurd first
on_some (Some x) Due a b one first second = one x first second

one_of : {A : Type 0} (o : Option A) (due : A → Outcome) (a b : Outcome) → IsSomeAnd o (λ x. a ≡ due x) → IsSomeAnd o (λ x. b ≡ due x) → AreAlike a b
one_of o due a b first second = on_some o (λ x out. out ≡ due x) a b (λ x u v. same_alike (due x) a b u v) first second

-- a job whose outcomes are told alike, case by case
one_outcome : (job : Job) (values : List Value) (a b : Outcome) → IsTrue (is_determined job) → Comes job values a → Comes job values b → AreAlike a b
one_outcome plan.explain values a b determined first second = same_alike _ a b first second
one_outcome (plan.solve budget) values a b determined first second = absurd (cc)
one_outcome plan.audit values a b determined first second = one_of (pairs_of values) (λ (read : Listed). audited read.lists read.pairs) a b first second
one_outcome plan.model values a b determined first second = one_of (lists_of values) modeled a b first second
one_outcome plan.verify values a b determined first second = one_of (claim_of values) verified a b first second
one_outcome plan.check values a b determined first second = one_of (claim_of values) checked a b first second
one_outcome plan.bound values a b determined first second =
    on_some (lists_of values) (λ l out. ProofDue bound_claim (bounded l) l out) a b (λ l x y. one_due bound_claim (bounded l) l a b (λ d t u v. record { status = refl; report = refl }) x y) first second
one_outcome plan.quick values a b determined first second =
    on_some (lists_of values) (λ l out. ProofDue (first_claim l) (matched l) l out) a b (λ l x y. one_due (first_claim l) (matched l) l a b (λ d t u v. record { status = refl; report = refl }) x y) first second

-- what a command and the files come to is told alike
pub one_told : (command : Plan) → IsTrue (is_determined command.job) → (files : Files) (a b : Outcome) → ComesTo command files a → ComesTo command files b → AreAlike a b
one_told command determined files a b first second =
    by first.read first.comes (subst (λ (r : Result (List Value) Rejection). OnRead command.job r b) (sym (reads_once command.inputs files [] first.read second.read first.reads second.reads)) second.comes)
  where
    by : (r : Result (List Value) Rejection) → OnRead command.job r a → OnRead command.job r b → AreAlike a b
    by (Err rejection) x y = same_alike _ a b x y
    by (Ok values) x y = one_outcome command.job values a b determined x y

-- ---- the status of a job

-- the status is one of the job's, and where it is told of no output there is no text
pub record IsOfJob (job : Job) (due : Outcome) : Type 0 where
  pub status : IsTrue (is_code_among (statuses_of job) (code_of due.status))
  pub unwritten : keeps_files (code_of due.status) ≡ true → due.texts ≡ []

-- an outcome that is this one
as_this : (job : Job) (due this : Outcome) → due ≡ this → IsOfJob job this → IsOfJob job due
as_this job due this e is = subst (IsOfJob job) (sym e) is

of_some : {A : Type 0} (o : Option A) (Due : A → Type 0) (job : Job) (due : Outcome) → ((x : A) → Due x → IsOfJob job due) → IsSomeAnd o Due → IsOfJob job due
of_some None Due job due is found = absurd found
of_some (Some x) Due job due is found = is x found

audit_of_job : (b : Bool) (report : List ℕ) → IsOfJob plan.audit (record { status = cond b Done AuditNo; report = report; texts = [] })
audit_of_job true report = record { status = refl; unwritten = λ e. refl }
audit_of_job false report = record { status = refl; unwritten = λ e. refl }

quick_of_job : (b : Bool) (report : List ℕ) (texts : List (List ℕ)) → IsOfJob plan.quick (record { status = cond b Done Bounded; report = report; texts = texts })
quick_of_job true report texts = record { status = refl; unwritten = λ e. absurd (cc) }
quick_of_job false report texts = record { status = refl; unwritten = λ e. absurd (cc) }

solve_of_job : (budget : ℕ) (b : Bool) (report : List ℕ) (texts : List (List ℕ)) → IsOfJob (plan.solve budget) (record { status = cond b Done Bounded; report = report; texts = texts })
solve_of_job budget true report texts = record { status = refl; unwritten = λ e. absurd (cc) }
solve_of_job budget false report texts = record { status = refl; unwritten = λ e. absurd (cc) }

-- what a job comes to, case by case
pub of_job : (job : Job) (values : List Value) (due : Outcome) → Comes job values due → IsOfJob job due
of_job plan.explain values due is = as_this plan.explain due _ is (record { status = refl; unwritten = λ e. refl })
of_job (plan.solve budget) values due is =
    of_some (lists_of values) (λ l. SolveDue l budget due) (plan.solve budget) due
    (λ l e. as_this (plan.solve budget) due (solved l (finding_of e.end) e.end.best e.text) e.is (solve_of_job budget e.end.best _ _)) is
of_job plan.audit values due is =
    of_some (pairs_of values) (λ (read : Listed). due ≡ audited read.lists read.pairs) plan.audit due
    (λ read e. as_this plan.audit due (audited read.lists read.pairs) e (audit_of_job (is_weakly_stable read.lists read.pairs) _)) is
of_job plan.model values due is = of_some (lists_of values) (λ l. due ≡ modeled l) plan.model due (λ l e. as_this plan.model due (modeled l) e (record { status = refl; unwritten = λ e. absurd (cc) })) is
of_job plan.verify values due is = of_some (claim_of values) (λ c. due ≡ verified c) plan.verify due (λ c e. as_this plan.verify due (verified c) e (record { status = refl; unwritten = λ e. refl })) is
of_job plan.check values due is = of_some (claim_of values) (λ c. due ≡ checked c) plan.check due (λ c e. as_this plan.check due (checked c) e (record { status = refl; unwritten = λ e. refl })) is
of_job plan.bound values due is =
    of_some (lists_of values) (λ l. ProofDue bound_claim (bounded l) l due) plan.bound due
    (λ l e. as_this plan.bound due (bounded l e.deleted e.top e.text) e.is (record { status = refl; unwritten = λ e. absurd (cc) })) is
of_job plan.quick values due is =
    of_some (lists_of values) (λ l. ProofDue (first_claim l) (matched l) l due) plan.quick due
    (λ l e. as_this plan.quick due (matched l e.deleted e.top e.text) e.is (quick_of_job (length (promotion l) == e.top) _ _)) is
