-- What a run that searched has printed.
use Rattle.std.proofs.Common.{◌≡◌, ◌≤◌, ◌<◌, ◌^◌, ℕ, Bool, true, false, cond, List, [], ◌∷◌, length, Option, Some, Result, Ok, refl, sym, ◌∙◌, ap, subst, inl, inr}
use Rattle.std.proofs.lemmas.List.{length-map}
use Rattle.hrt_base.specs.declared.numbered.PairNo.{PairNo}
use Rattle.hrt_base.specs.declared.port.Port.TheVariants.{Report}
use Rattle.hrt_base.specs.World.{World}
use Rattle.rank_tables.specs.Instance.{Lists, pair_count}
use Rattle.rank_tables.specs.Tables.{numbers_of}
use Rattle.hrt_solve.specs.declared.ends.SolveEnd.{SolveEnd}
use Rattle.hrt_solve.specs.Searched.{IsSolveEnd, IsSolveProof}
use Rattle.hrt_inputs.specs.Rejections.{Rejection}
use Rattle.hrt_inputs.specs.Taken.{IsInstance}
use Rattle.hrt_inputs.proofs.TakenInstances.{instance_taken}
use Rattle.hrt_cli.specs.declared.status.Status.{Status}
use Rattle.hrt_cli.specs.declared.status.Status.TheVariants.{Done, Bounded}
use Rattle.hrt_cli.specs.declared.stop.Ended.{Ended}
use Rattle.hrt_cli.specs.Outcomes.{IsProofOf, OnRead, Outcome, SolveDue, solved}
use Rattle.hrt_cli.specs.Outputs.{SendsAll, outputs_of}
use Rattle.hrt_cli.specs.Plans as plan
use Rattle.hrt_cli.specs.Plans.{ReadsTo, Value, as_value, instance_in}
use Rattle.hrt_cli.specs.Reports.{finding_of}
use Rattle.hrt_cli.specs.Requests.{Request, solve}
use Rattle.hrt_cli.specs.Runs.{EndsAs, IsDecided, PrintsBest, PrintsSolved, PrintsSpent, Settles}
use Rattle.hrt_cli.specs.Statuses.{code_of, exit_code}
use Rattle.hrt_cli.proofs.Codes.{reported_or}
use Rattle.hrt_cli.proofs.NamedOutputs.{AreApart}
use Rattle.hrt_cli.proofs.Once.{reads_once}
use Rattle.hrt_cli.proofs.Printed.{done, is_refusal, on_instance, reported_as}
use Rattle.hrt_cli.proofs.PrintedBounds.{met_by, open_by, written_both}

-- ---- what is printed

-- all that is said of a search, by whether its matching is best
record IsPrinted (i m p : List ℕ) (budget n : ℕ) (old new : World) : Type 0 where
  lists_are : Lists
  end : SolveEnd
  said : IsSolveEnd lists_are budget end
  printed : PrintsSolved lists_are budget (finding_of end) end.best i m p old.content new.content
  code : n ≡ code_of (cond end.best Done Bounded)
  spent : end.best ≡ false → end.conflicts ≡ budget

-- as many numbers as pairs
size : (end : SolveEnd) → length (numbers_of end.pairs.items) ≡ length end.pairs.items
size end = length-map end.pairs.items (λ (p : PairNo). p.0)

proof_of : (lists : Lists) (budget : ℕ) (end : SolveEnd) (text : List ℕ) → IsProofOf lists budget end text → IsSolveProof lists budget end.ceiling (length (numbers_of end.pairs.items)) end.conflicts end.best text
proof_of lists budget end text is = subst (λ (k : ℕ). IsSolveProof lists budget end.ceiling k end.conflicts end.best text) (sym (size end)) is

is_printed : (i m p : List ℕ) (budget n : ℕ) (old new : World) → AreApart m p → is_refusal n ≡ false → IsDecided (Some (solve i m p budget)) n old new → IsPrinted i m p budget n old new
is_printed i m p budget n old new names other is =
    let run = done (Some (solve i m p budget)) n old new other is in
    let found = on_instance (Some (solve i m p budget)) i n old new refl run in
    let l = found.lists_are in
    let due = found.comes in
    let end = due.end in
    let said = due.said in
    record {
      lists_are = l;
      end = end;
      said = said;
      printed = record {
        bytes = found.bytes;
        file = found.file;
        spelled = found.spelled;
        numbers = said.numbers;
        most = said.most;
        first = said.first_is;
        unsearched = λ e. let first = said.unsearched e in (first.pairs_are, first.conflicts_are);
        stable = said.stable;
        rising = said.rising;
        report = reported_as run.outcome (solved l (finding_of end) end.best due.text) (new.content.sent Report) due.is run.report;
        written = written_both l (IsSolveProof l budget end.ceiling (length (numbers_of end.pairs.items)) end.conflicts end.best) due.text m p old new names (proof_of l budget end due.text due.is_proof)
            (subst (λ (o : Outcome). SendsAll (outputs_of (Some (solve i m p budget)) o.texts) old.content new.content) due.is run.sends);
      };
      code = run.code ∙ ap (λ (o : Outcome). code_of o.status) due.is;
      spent = due.is_proof.spent;
    }

pub best : (i m p : List ℕ) (budget : ℕ) (old new : World) → AreApart m p → IsDecided (Some (solve i m p budget)) 0 old new → PrintsBest i m p budget old.content new.content
best i m p budget old new names run =
    let is = is_printed i m p budget 0 old new names refl run in
    let met : is.end.best ≡ true = met_by is.end.best (sym is.code) in
    record {
      lists = is.lists_are;
      found = finding_of is.end;
      printed = subst (λ (b : Bool). PrintsSolved is.lists_are budget (finding_of is.end) b i m p old.content new.content) met is.printed;
      best = is.said.best met;
    }

pub spent : (i m p : List ℕ) (budget : ℕ) (old new : World) → AreApart m p → IsDecided (Some (solve i m p budget)) 10 old new → PrintsSpent i m p budget old.content new.content
spent i m p budget old new names run =
    let is = is_printed i m p budget 10 old new names refl run in
    let left : is.end.best ≡ false = open_by is.end.best (sym is.code) in
    record {
      lists = is.lists_are;
      found = finding_of is.end;
      printed = subst (λ (b : Bool). PrintsSolved is.lists_are budget (finding_of is.end) b i m p old.content new.content) left is.printed;
      fewer = subst (λ (k : ℕ). k < is.end.ceiling) (sym (size is.end)) (is.said.shorter left);
      spent = is.spent left;
    }

-- ---- how it ends

-- what is told of an instance that is taken
due_on : (i m p : List ℕ) (budget n : ℕ) (old new : World) → (is : IsDecided (Some (solve i m p budget)) n old new) → (bytes : List ℕ) → old.content.file i ≡ Some bytes → (lists : Lists) → IsInstance bytes lists
    → SolveDue lists budget is.reported.outcome
due_on i m p budget n old new is bytes file lists instance =
    let told_of = is.reported in
    let reads : ReadsTo (instance_in i ∷ []) old.content.file [] (Ok (plan.lists lists ∷ [])) =
    (bytes, file, inr (plan.lists lists, sym (ap (as_value plan.lists) (instance_taken bytes lists instance)), refl)) in
    subst (λ (r : Result (List Value) Rejection). OnRead (plan.solve budget) r told_of.outcome) (reads_once (instance_in i ∷ []) old.content.file [] told_of.due.read (Ok (plan.lists lists ∷ [])) told_of.due.reads reads) told_of.due.comes

settled : (i m p : List ℕ) (budget n : ℕ) (old new : World) → IsDecided (Some (solve i m p budget)) n old new → (bytes : List ℕ) → old.content.file i ≡ Some bytes → (lists : Lists) → IsInstance bytes lists
    → 2 ^ pair_count lists ≤ budget → n ≡ 0
settled i m p budget n old new is bytes file lists instance enough =
    let due = due_on i m p budget n old new is bytes file lists instance in
    is.code ∙ ap code_of (is.reported.answered ∙ ap (λ (o : Outcome). o.status) due.is) ∙ ap (λ (b : Bool). code_of (cond b Done Bounded)) (due.said.settles enough)

pub settles : (told : Type 0) (request : Option Request) (old new : World) (e : Result Status Ended) → EndsAs told request e old new → told → (i m p : List ℕ) (budget : ℕ) → request ≡ Some (solve i m p budget)
    → Settles i budget (exit_code e) old new
settles told request old new e ends t i m p budget asks none bytes file lists instance enough = elim (reported_or told request old new e ends t none) [
  | inl is ↦ inl (settled i m p budget (exit_code e) old new (subst (λ (q : Option Request). IsDecided q (exit_code e) old new) asks is) bytes file lists instance enough)
  | inr wanting ↦ inr wanting
]
