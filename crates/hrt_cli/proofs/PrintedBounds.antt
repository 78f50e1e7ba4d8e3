-- What a run that is done says of a bound.
use Rattle.std.proofs.Common.{◌≡◌, ◌≤◌, ◌<◌, ◌==◌, ℕ, Bool, true, false, cond, codes, List, length, Some, IsTrue, refl, sym, ◌∙◌, ap, subst, arith, inl, inr, pos, neg_ℤ, ◌≤ℤ◌, eq-eqb}
use Rattle.std.proofs.lemmas.Int.{ints}
use Rattle.std.proofs.lemmas.Bool.{cases_lt, eqb-true}
use Rattle.hrt_base.specs.declared.port.Port.TheVariants.{Model, Proof, Report}
use Rattle.hrt_base.specs.World.{World, store}
use Rattle.rank_tables.specs.Instance.{Lists}
use Rattle.rank_tables.specs.Stability.{is_weakly_stable}
use Rattle.hrt_reader.specs.Accepted.{Spells}
use Rattle.hrt_reader.proofs.Unrefused.{spelled_well_formed}
use Rattle.opb_text.specs.Spelling.{model_text}
use Rattle.promotion_heuristic.specs.Promotion.{promotion}
use Rattle.promotion_heuristic.proofs.Stable.{promotion-stable}
use Rattle.proof_lines.specs.declared.line.Claim.{Claim}
use Rattle.proof_rules.proofs.Matchings.{verified_bounds}
use Rattle.hrt_solve.specs.Gauged.{IsMost, bound_claim, value_of}
use Rattle.hrt_solve.specs.Writing.{IsProof}
use Rattle.hrt_cli.specs.declared.status.Status.TheVariants.{Done, Bounded}
use Rattle.hrt_cli.specs.Outcomes.{Outcome, bounded, first_claim, matched}
use Rattle.hrt_cli.specs.Outputs.{SendsAll, both, outputs_of}
use Rattle.hrt_cli.specs.Reports.{count_line, last_line, line}
use Rattle.hrt_cli.specs.Requests.{bound, quick}
use Rattle.hrt_cli.specs.Runs.{IsDecided, PrintsBound, PrintsMatching, PrintsMet, PrintsOpen, WritesBoth, WritesProofOf}
use Rattle.hrt_cli.specs.Statuses.{code_of}
use Rattle.hrt_cli.proofs.NamedOutputs.{AreApart, not_stored, stored}
use Rattle.hrt_cli.proofs.Printed.{done, is_refusal, on_instance, reported_as}

-- ---- the files

pub written_both : (lists : Lists) (Is : List ℕ → Type 0) (text m p : List ℕ) (old new : World) → AreApart m p → Is text → SendsAll (both m p lists text) old.content new.content → WritesBoth lists Is m p new.content
written_both lists Is text m p old new names is sends =
    let model : new.content.sent Model ≡ model_text lists = sends.sent Model (λ same. absurd (omega arith)) in
    let proof : new.content.sent Proof ≡ text = sends.sent Proof (λ same. absurd (omega arith)) in
    record {
      model_sent = model;
      model_file =
          sends.files m ∙ not_stored p text (store m (model_text lists) old.content.file) m names.apart ∙ stored m (model_text lists) old.content.file names.named
          ∙ ap (λ (l : List ℕ). Some l) (sym model);
      proof_file = sends.files p ∙ stored p text (store m (model_text lists) old.content.file) names.proof_named ∙ ap (λ (l : List ℕ). Some l) (sym proof);
      is_proof = subst Is (sym proof) is;
    }

written_proof : (lists : Lists) (text : List ℕ) (claim : Claim) (m p : List ℕ) (old new : World) → AreApart m p → IsProof lists text claim 0 → SendsAll (both m p lists text) old.content new.content
    → WritesProofOf lists claim m p new.content
written_proof lists text claim m p old new names is_proof sends = written_both lists (λ l. IsProof lists l claim 0) text m p old new names is_proof sends

-- ---- the numbers

within_top : (n k : ℕ) → pos n ≤ℤ neg_ℤ (value_of k) → n ≤ k
within_top n k h = omega (arith, ints)

bound_most : (lists : Lists) (text : List ℕ) (top : ℕ) → IsProof lists text (bound_claim top) 0 → IsMost lists top
bound_most lists text top proof m stable = within_top (length m) top ((verified_bounds lists text (bound_claim top) proof.valid).0 m stable)

first_most : (lists : Lists) (text : List ℕ) (top : ℕ) → IsProof lists text (first_claim lists top) 0 → IsMost lists top
first_most lists text top proof m stable = within_top (length m) top ((verified_bounds lists text (first_claim lists top) proof.valid).0 m stable)

-- the promotion's pairs of an instance that is spelled
promoted_stable : (bytes : List ℕ) (lists : Lists) → Spells bytes lists → IsTrue (is_weakly_stable lists (promotion lists))
promoted_stable bytes lists spelled = promotion-stable lists (spelled_well_formed bytes lists spelled)

-- ---- a bound

pub bound_printed : (i m p : List ℕ) (old new : World) → AreApart m p → IsDecided (Some (bound i m p)) 0 old new → PrintsBound i m p old.content new.content
bound_printed i m p old new names is =
    let run = done (Some (bound i m p)) 0 old new refl is in
    let found = on_instance (Some (bound i m p)) i 0 old new refl run in
    let l = found.lists_are in
    let due = found.comes in
    record {
      bytes = found.bytes;
      file = found.file;
      lists = l;
      spelled = found.spelled;
      deleted = due.deleted;
      top = due.top;
      numbers = due.numbers;
      most = bound_most l due.text due.top due.is_proof;
      report = reported_as run.outcome (bounded l due.deleted due.top due.text) (new.content.sent Report) due.is run.report;
      written = written_proof l due.text (bound_claim due.top) m p old new names due.is_proof
          (subst (λ (o : Outcome). SendsAll (outputs_of (Some (bound i m p)) o.texts) old.content new.content) due.is run.sends);
    }

-- ---- a first matching

-- all that is said of it, with the last line by whether it is as large as the ceiling
record IsPrinted (i m p : List ℕ) (n : ℕ) (old new : World) : Type 0 where
  lists_are : Lists
  top : ℕ
  printed : PrintsMatching lists_are top (last_line (length (promotion lists_are) == top) top) i m p old.content new.content
  code : n ≡ code_of (cond (length (promotion lists_are) == top) Done Bounded)

is_printed : (i m p : List ℕ) (n : ℕ) (old new : World) → AreApart m p → is_refusal n ≡ false → IsDecided (Some (quick i m p)) n old new → IsPrinted i m p n old new
is_printed i m p n old new names other is =
    let run = done (Some (quick i m p)) n old new other is in
    let found = on_instance (Some (quick i m p)) i n old new refl run in
    let l = found.lists_are in
    let due = found.comes in
    record {
      lists_are = l;
      top = due.top;
      printed = record {
        bytes = found.bytes;
        file = found.file;
        spelled = found.spelled;
        deleted = due.deleted;
        numbers = due.numbers;
        most = first_most l due.text due.top due.is_proof;
        stable = promoted_stable found.bytes l found.spelled;
        report = reported_as run.outcome (matched l due.deleted due.top due.text) (new.content.sent Report) due.is run.report;
        written = written_proof l due.text (first_claim l due.top) m p old new names due.is_proof
            (subst (λ (o : Outcome). SendsAll (outputs_of (Some (quick i m p)) o.texts) old.content new.content) due.is run.sends);
      };
      code = run.code ∙ ap (λ (o : Outcome). code_of o.status) due.is;
    }

-- as large as the ceiling, by the code
pub met_by : (b : Bool) → code_of (cond b Done Bounded) ≡ 0 → b ≡ true
met_by true e = refl
met_by false e = absurd (cc)

pub open_by : (b : Bool) → code_of (cond b Done Bounded) ≡ 10 → b ≡ false
open_by true e = absurd (cc)
open_by false e = refl

pub met : (i m p : List ℕ) (old new : World) → AreApart m p → IsDecided (Some (quick i m p)) 0 old new → PrintsMet i m p old.content new.content
met i m p old new names run =
    let is = is_printed i m p 0 old new names refl run in
    let l = is.lists_are in
    let top = is.top in
    let same : (length (promotion l) == top) ≡ true = met_by (length (promotion l) == top) (sym is.code) in
    let met : top ≡ length (promotion l) = sym (eqb-true (length (promotion l)) top same) in
    let last : last_line (length (promotion l) == top) top ≡ line (codes "best") = ap (λ (b : Bool). last_line b top) same in
    record {
      lists = l;
      printed =
          subst (λ (n : ℕ). PrintsMatching l n (line (codes "best")) i m p old.content new.content) met
          (subst (λ (text : List ℕ). PrintsMatching l top text i m p old.content new.content) last is.printed);
      best = record {
        stable = is.printed.stable;
        largest = λ n stable. subst (λ (k : ℕ). length n ≤ k) met (is.printed.most n stable);
      };
    }

smaller : (n k : ℕ) → n ≤ k → (n == k) ≡ false → n < k
smaller n k le apart = elim (cases_lt n k) [
  | inl less ↦ less
  | inr no_less ↦ let same : n ≡ k = omega arith in let t : true ≡ false = sym (eq-eqb n k same) ∙ apart in absurd (cc)
]

pub open_printed : (i m p : List ℕ) (old new : World) → AreApart m p → IsDecided (Some (quick i m p)) 10 old new → PrintsOpen i m p old.content new.content
open_printed i m p old new names run =
    let is = is_printed i m p 10 old new names refl run in
    let l = is.lists_are in
    let top = is.top in
    let apart : (length (promotion l) == top) ≡ false = open_by (length (promotion l) == top) (sym is.code) in
    let last : last_line (length (promotion l) == top) top ≡ count_line (codes "at most") top = ap (λ (b : Bool). last_line b top) apart in
    record {
      lists = l;
      top = top;
      printed = subst (λ (text : List ℕ). PrintsMatching l top text i m p old.content new.content) last is.printed;
      fewer = smaller (length (promotion l)) top (is.printed.most (promotion l) is.printed.stable) apart;
    }
