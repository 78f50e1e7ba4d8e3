-- What the commands that write a model and a proof of it come to.
use Rattle.std.proofs.Common.{◌≡◌, ◌==◌, ℕ, Bool, true, false, cond, List, [], ◌∷◌, length, Option, Some, Result, Ok, Err, IfErr, IfOk, IsTrue, refl, sym, ◌∙◌, ap, subst, inl, inr}
use Rattle.std.proofs.lemmas.List.{length-map}
use Rattle.hrt_base.specs.declared.failure.WriteEnd.{WriteEnd}
use Rattle.hrt_base.specs.declared.failure.WriteEnd.TheVariants as end
use Rattle.hrt_base.specs.declared.numbered.PairNo.{PairNo}
use Rattle.hrt_base.specs.declared.port.Port.{Port}
use Rattle.hrt_base.specs.Calls.{Rose}
use Rattle.hrt_base.specs.World.{World}
use Rattle.rank_tables.specs.Instance.{Lists}
use Rattle.rank_tables.specs.Tables.{numbers_of}
use Rattle.opb_text.specs.Spelling.{model_text}
use Rattle.promotion_heuristic.specs.Promotion.{promotion}
use Rattle.hrt_solve.specs.declared.ends.SolveEnd.{SolveEnd}
use Rattle.hrt_solve.specs.Gauged.{AreNumbersOf, bound_claim}
use Rattle.hrt_solve.specs.Searched.{IsSolveEnd, IsSolveText}
use Rattle.hrt_solve.specs.Writing.{IsBoundText, IsProof, IsQuickEnd, IsQuickText}
use Rattle.hrt_inputs.specs.Inputs.{KeepsPorts}
use Rattle.hrt_inputs.proofs.KeptPorts.{keeps_fewer}
use Rattle.hrt_cli.specs.declared.answer.Answer.{Answer}
use Rattle.hrt_cli.specs.declared.status.Status.TheVariants as status
use Rattle.hrt_cli.specs.declared.stop.Ended.{Ended}
use Rattle.hrt_cli.specs.declared.stop.Ended.TheVariants as ended
use Rattle.hrt_cli.specs.Answers.{IsAnswer, Serves}
use Rattle.hrt_cli.specs.Outcomes.{AreTexts, Comes, IsProofOf, Outcome, bounded, first_claim, matched, solved}
use Rattle.hrt_cli.specs.Outputs.{Output, both, outputs_of}
use Rattle.hrt_cli.specs.Plans as plan
use Rattle.hrt_cli.specs.Plans.{AreSome, IsWritePort, plan_of}
use Rattle.hrt_cli.specs.Ports.{BeginsWriting, IsModelOrProof}
use Rattle.hrt_cli.specs.Reports.{Finding, finding_of, first_finding}
use Rattle.hrt_cli.specs.Requests.{Request, bound, quick, solve}
use Rattle.hrt_cli.specs.Statuses.{code_of, is_told_of}
use Rattle.hrt_cli.specs.Writing.{SavesBoth, SavesInPart, WritesAll, WritesFronts, ended_by}
use Rattle.hrt_cli.proofs.BegunPorts.{begins_more, of_both}
use Rattle.hrt_cli.proofs.Reading.{HasRead}
use Rattle.hrt_cli.proofs.Serving.{IsFinished, IsGivenUp, IsInPart, served}

-- a request that reads the instance and writes its model and a text of which this holds
pub record Prover (Is : List ℕ → Type 0) (l : Lists) : Type 0 where
  pub request : Option Request
  pub name : List ℕ
  pub proof : List ℕ
  pub texts : (text : List ℕ) → Is text → AreTexts (plan_of request).job (plan.lists l ∷ []) (model_text l ∷ text ∷ [])
  pub outputs : (text : List ℕ) → outputs_of request (model_text l ∷ text ∷ []) ≡ both name proof l text
  pub some : AreSome (plan_of request).outputs
  pub ports : (port : Port) → IsModelOrProof port → IsWritePort (plan_of request).outputs port

-- what the request comes to with such a text
pub record Proves (request : Option Request) (Is : List ℕ → Type 0) (l : Lists) (done : List ℕ → Outcome) : Type 0 where
  pub comes : (text : List ℕ) → Is text → Comes (plan_of request).job (plan.lists l ∷ []) (done text)
  pub suits : (text : List ℕ) → IsTrue (is_told_of request (code_of (done text).status))
  pub texts : (text : List ℕ) → (done text).texts ≡ model_text l ∷ text ∷ []

module _ (told : Type 0) (Is : List ℕ → Type 0) (l : Lists) (prover : Prover Is l) (old mid new : World) (read : HasRead told (plan_of prover.request).inputs (plan.lists l ∷ []) old mid)
    (begins : BeginsWriting IsModelOrProof mid new) (keeps : KeepsPorts told IsModelOrProof mid new) where
  serves : (r : Result Answer Ended) → IfOk r (λ answer. IsFinished told prover.request (plan.lists l ∷ []) answer mid new) → IfErr r (λ why. IsGivenUp told prover.request (plan.lists l ∷ []) why mid new)
      → Serves told prover.request r old new
  serves r is up = served told prover.request (plan.lists l ∷ []) old mid new read r
      (begins_more IsModelOrProof (IsWritePort (plan_of prover.request).outputs) mid new prover.ports begins)
      (keeps_fewer told IsModelOrProof (IsWritePort (plan_of prover.request).outputs) mid new prover.ports keeps) is up

  -- fronts of the model and of such a text
  fronts_of : (text : List ℕ) → Is text → WritesFronts told (both prover.name prover.proof l text) mid new → IsInPart told prover.request (plan.lists l ∷ []) mid new
  fronts_of text is fronts = inr (record {
    texts = model_text l ∷ text ∷ [];
    are = prover.texts text is;
    fronts = subst (λ (os : List Output). WritesFronts told os mid new) (sym (prover.outputs text)) fronts;
  })

  -- the model and the proof are written, and the answer or want of memory follows
  pub proved : (Text : List ℕ → Type 0) (done : List ℕ → Outcome) (r : Result Answer Ended) → Proves prover.request Text l done → ((text : List ℕ) → Text text → Is text)
      → SavesBoth told Text l prover.name prover.proof mid new → IfOk r (λ answer. (text : List ℕ) → IsAnswer (done text) answer) → IfErr r (λ why. why ≡ ended.NoMemory) → Serves told prover.request r old new
  proved Text done r proves some saved answers wants = serves r (ok r answers) (err r wants)
    where
      ok : (x : Result Answer Ended) → IfOk x (λ answer. (text : List ℕ) → IsAnswer (done text) answer) → IfOk x (λ answer. IsFinished told prover.request (plan.lists l ∷ []) answer mid new)
      ok (Ok answer) answered = record {
        outcome = done saved.text;
        comes = proves.comes saved.text saved.is;
        suits = proves.suits saved.text;
        answered = answered saved.text;
        writes = subst (λ (os : List Output). WritesAll told os mid new) (sym (ap (outputs_of prover.request) (proves.texts saved.text) ∙ prover.outputs saved.text)) saved.saved;
      }
      ok (Err why) answered = tt

      err : (x : Result Answer Ended) → IfErr x (λ why. why ≡ ended.NoMemory) → IfErr x (λ why. IsGivenUp told prover.request (plan.lists l ∷ []) why mid new)
      err (Ok answer) e = tt
      err (Err why) e = subst (λ (w : Ended). IsGivenUp told prover.request (plan.lists l ∷ []) w mid new) (sym e)
          (fronts_of saved.text (some saved.text saved.is) (record { whole = 2; count = 0; writes = saved.saved.writes }))

  -- they are written in part
  pub unproved : (e : WriteEnd) (why : Ended) → why ≡ ended_by e → SavesInPart told Is l prover.name prover.proof mid new → (e ≡ end.Failed → Rose mid.write_faults new.write_faults)
      → Serves told prover.request (Err why) old new
  unproved e why is saved rose = serves (Err why) tt (subst (λ (w : Ended). IsGivenUp told prover.request (plan.lists l ∷ []) w mid new) (sym is) (by e rose (part saved)))
    where
      part : SavesInPart told Is l prover.name prover.proof mid new → IsInPart told prover.request (plan.lists l ∷ []) mid new
      part (inl nothing) = inl nothing
      part (inr fronts) = fronts_of fronts.text fronts.is fronts.fronts

      by : (x : WriteEnd) → (x ≡ end.Failed → Rose mid.write_faults new.write_faults) → IsInPart told prover.request (plan.lists l ∷ []) mid new → IsGivenUp told prover.request (plan.lists l ∷ []) (ended_by x) mid new
      by end.Failed risen parts = record { some = prover.some; rose = risen refl; part = parts }
      by end.NoMemory risen parts = parts

-- ---- a bound

abbrev pub bounding : List ℕ → List ℕ → List ℕ → (l : Lists) → Prover (IsBoundText l) l
bounding i m p l = record {
  request = Some (bound i m p);
  name = m;
  proof = p;
  texts = λ text is. record { text = text; is = is; are = refl };
  outputs = λ text. refl;
  some = tt;
  ports = of_both m p;
}

-- the text is a proof of this bound
abbrev pub IsBoundProof : Lists → ℕ → List ℕ → Type 0
IsBoundProof l top text = IsProof l text (bound_claim top) 0

pub bound_proves : (i m p : List ℕ) (l : Lists) (deleted top : ℕ) → AreNumbersOf l deleted top → Proves (Some (bound i m p)) (IsBoundProof l top) l (bounded l deleted top)
bound_proves i m p l deleted top numbers = record {
  comes = λ text is. record { deleted = deleted; top = top; text = text; numbers = numbers; is_proof = is; is = refl };
  suits = λ text. refl;
  texts = λ text. refl;
}

pub bound_text : (l : Lists) (deleted top : ℕ) → AreNumbersOf l deleted top → (text : List ℕ) → IsBoundProof l top text → IsBoundText l text
bound_text l deleted top numbers text is = record { deleted = deleted; top = top; numbers = numbers; is_proof = is }

-- ---- a first matching

abbrev pub matching : List ℕ → List ℕ → List ℕ → (l : Lists) → Prover (IsQuickText l) l
matching i m p l = record {
  request = Some (quick i m p);
  name = m;
  proof = p;
  texts = λ text is. record { text = text; is = is; are = refl };
  outputs = λ text. refl;
  some = tt;
  ports = of_both m p;
}

-- the text is a proof of this ceiling and of the first matching
abbrev pub IsMatchProof : Lists → ℕ → List ℕ → Type 0
IsMatchProof l top text = IsProof l text (first_claim l top) 0

match_suits : (i m p : List ℕ) (b : Bool) → IsTrue (is_told_of (Some (quick i m p)) (code_of (cond b status.Done status.Bounded)))
match_suits i m p true = refl
match_suits i m p false = refl

pub match_proves : (i m p : List ℕ) (l : Lists) (deleted top : ℕ) → AreNumbersOf l deleted top → Proves (Some (quick i m p)) (IsMatchProof l top) l (matched l deleted top)
match_proves i m p l deleted top numbers = record {
  comes = λ text is. record { deleted = deleted; top = top; text = text; numbers = numbers; is_proof = is; is = refl };
  suits = λ text. match_suits i m p (length (promotion l) == top);
  texts = λ text. refl;
}

pub match_text : (l : Lists) (deleted top : ℕ) → AreNumbersOf l deleted top → (text : List ℕ) → IsMatchProof l top text → IsQuickText l text
match_text l deleted top numbers text is = record { deleted = deleted; top = top; numbers = numbers; is_proof = is }

abbrev with_first : SolveEnd → ℕ → ℕ → List ℕ → Finding
with_first end first conflicts pairs = record { deleted = end.deleted; top = end.ceiling; first = first; conflicts = conflicts; pairs = pairs }

-- what the job says of the first matching is what is due
found_first : (lists : Lists) (end : SolveEnd) → IsQuickEnd lists end → finding_of end ≡ first_finding lists end.deleted end.ceiling
found_first lists end said =
    let size : length end.pairs.items ≡ length (promotion lists) = sym (length-map end.pairs.items (λ (p : PairNo). p.0)) ∙ ap length said.pairs_are in
    ap (λ (n : ℕ). with_first end n end.conflicts (numbers_of end.pairs.items)) (said.first_is ∙ size)
    ∙ ap (λ (n : ℕ). with_first end (length (promotion lists)) n (numbers_of end.pairs.items)) said.conflicts_are
    ∙ ap (with_first end (length (promotion lists)) 0) said.pairs_are

best_first : (lists : Lists) (end : SolveEnd) → IsQuickEnd lists end → end.best ≡ (length (promotion lists) == end.ceiling)
best_first lists end said = said.best_is ∙ ap (λ (n : ℕ). n == end.ceiling) (sym (length-map end.pairs.items (λ (p : PairNo). p.0)) ∙ ap length said.pairs_are)

pub match_answers : (lists : Lists) (end : SolveEnd) (r : Result Answer Ended) → IsQuickEnd lists end → IfOk r (λ answer. (text : List ℕ) → IsAnswer (solved lists (finding_of end) end.best text) answer)
    → IfOk r (λ answer. (text : List ℕ) → IsAnswer (matched lists end.deleted end.ceiling text) answer)
match_answers lists end (Ok answer) said answered = λ text.
    subst (λ (f : Finding). IsAnswer (solved lists f (length (promotion lists) == end.ceiling) text) answer) (found_first lists end said)
    (subst (λ (b : Bool). IsAnswer (solved lists (finding_of end) b text) answer) (best_first lists end said) (answered text))
match_answers lists end (Err why) said answered = tt

-- ---- a search

abbrev pub searching : List ℕ → List ℕ → List ℕ → (budget : ℕ) (l : Lists) → Prover (IsSolveText l budget) l
searching i m p budget l = record {
  request = Some (solve i m p budget);
  name = m;
  proof = p;
  texts = λ text is. record { text = text; is = is; are = refl };
  outputs = λ text. refl;
  some = tt;
  ports = of_both m p;
}

solve_suits : (i m p : List ℕ) (budget : ℕ) (b : Bool) → IsTrue (is_told_of (Some (solve i m p budget)) (code_of (cond b status.Done status.Bounded)))
solve_suits i m p budget true = refl
solve_suits i m p budget false = refl

pub solve_proves : (i m p : List ℕ) (budget : ℕ) (l : Lists) (end : SolveEnd) → IsSolveEnd l budget end → Proves (Some (solve i m p budget)) (IsProofOf l budget end) l (solved l (finding_of end) end.best)
solve_proves i m p budget l end said = record {
  comes = λ text is. record { end = end; said = said; text = text; is_proof = is; is = refl };
  suits = λ text. solve_suits i m p budget end.best;
  texts = λ text. refl;
}

pub solve_text : (l : Lists) (budget : ℕ) (end : SolveEnd) → IsSolveEnd l budget end → (text : List ℕ) → IsProofOf l budget end text → IsSolveText l budget text
solve_text l budget end said text is = record {
  deleted = end.deleted;
  top = end.ceiling;
  numbers = said.numbers;
  size = length end.pairs.items;
  learned = end.conflicts;
  best = end.best;
  is_proof = is;
}
