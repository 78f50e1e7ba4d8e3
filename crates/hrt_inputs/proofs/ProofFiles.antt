-- What reading a proof that is not accepted did to the host.
use Rattle.std.proofs.Common.{◌≡◌, ◌↔◌, ◌<◌, ℕ, List, ◌++◌, length, length-append, Some, Result, Ok, Err, IfErr, refl, sym, ◌∙◌, ap, subst, arith}
use Rattle.std.specs.Result.{IsErrAnd}
use Rattle.std.proofs.lemmas.List.{append-nil}
use Rattle.hrt_base.specs.declared.port.Port.{Port}
use Rattle.hrt_base.specs.declared.port.Port.TheVariants.{Proof}
use Rattle.hrt_base.specs.declared.host.Begun.{Begun}
use Rattle.hrt_base.specs.declared.host.Begun.TheVariants.{Idle, Writing}
use Rattle.hrt_base.specs.Calls.{Opened, Taken, TakenSoFar}
use Rattle.hrt_base.specs.World.{World, Content, with_rest}
use Rattle.hrt_base.proofs.Pieces.{put_here, taken_so_far, with_rest_twice}
use Rattle.pb_rows.specs.Formula.{Formula}
use Rattle.proof_lines.specs.declared.line.Claim.{Claim}
use Rattle.proof_rules.specs.Texts.{Verdict}
use Rattle.hrt_solve.specs.declared.refusal.CheckRefusal.{CheckRefusal}
use Rattle.hrt_solve.specs.declared.refusal.CheckRefusal.TheVariants as check
use Rattle.proof_checker.specs.Limits.{most_proof_bytes}
use Rattle.hrt_solve.specs.Judged.{IsJudged, StopsCheck}
use Rattle.hrt_inputs.specs.declared.stop.Stop.{Stop}
use Rattle.hrt_inputs.specs.Inputs.{IsTooLong, OnlyRead}
use Rattle.hrt_inputs.specs.Proofs.{IsProofJudged, StopsProof, check_stop}
use Rattle.hrt_inputs.proofs.Ports.{reading_writers}

-- ---- a port that was begun, and from which bytes were taken

abbrev taken_content : (told : Type 0) (name bytes : List ℕ) (old mid new : World) → Opened told Proof name old mid → TakenSoFar told Proof bytes mid new → told → new.content ≡ with_rest Proof (new.content.rest Proof) old.content
taken_content told name bytes old mid new opened taken t =
    taken.content t ∙ ap (with_rest Proof (new.content.rest Proof)) (opened.content t).2 ∙ with_rest_twice Proof (opened.content t).0 (new.content.rest Proof) old.content

only_read : (told : Type 0) (name bytes : List ℕ) (old mid new : World) → old.begun Proof ≡ Idle → Opened told Proof name old mid → TakenSoFar told Proof bytes mid new → OnlyRead told old new
only_read told name bytes old mid new idle opened taken = record {
  later = omega (arith, opened.read_faults, taken.later);
  write_faults = taken.write_faults ∙ opened.write_faults;
  writers = λ p. subst (λ (f : Port → Begun). (f p ≡ Writing) ↔ (old.begun p ≡ Writing)) (sym (taken.begun ∙ opened.begun)) (reading_writers Proof old.begun idle p);
  content = λ t.
      let is = taken_content told name bytes old mid new opened taken t in
      let rest = sym (ap (λ (c : Content). c.rest) is) in
      is ∙ (λ i. record { name = old.content.name; rest = rest i; sent = old.content.sent; file = old.content.file });
}

-- the file has the bytes that were taken, and what is left
file_taken : (told : Type 0) (name bytes : List ℕ) (old mid new : World) → Opened told Proof name old mid → Taken told Proof bytes mid new → told → old.content.file name ≡ Some (bytes ++ new.content.rest Proof)
file_taken told name bytes old mid new opened taken t =
    let file = opened.content t in
    let all : file.0 ≡ bytes ++ new.content.rest Proof = sym (ap (λ (c : Content). c.rest Proof) file.2 ∙ put_here Proof file.0 old.content.rest) ∙ taken.front t in
    file.1 ∙ ap (λ (l : List ℕ). Some l) all

judged : (told : Type 0) (name : List ℕ) (f : Formula) (verdict : Verdict) (old mid new : World) → old.begun Proof ≡ Idle → Opened told Proof name old mid → IsJudged told f verdict mid new
    → IsProofJudged told name f verdict old new
judged told name f verdict old mid new idle opened j =
    let taken = j.read.taken in
    let so_far = taken_so_far told Proof j.bytes mid new taken in
    record {
      only_read = only_read told name j.bytes old mid new idle opened so_far;
      read_faults = taken.read_faults ∙ opened.read_faults;
      begun = taken.begun ∙ opened.begun;
      content = λ t. taken_content told name j.bytes old mid new opened so_far t ∙ ap (λ (l : List ℕ). with_rest Proof l old.content) (j.read.rest t);
      judged = λ t. (
        j.bytes,
        file_taken told name j.bytes old mid new opened taken t ∙ ap (λ (l : List ℕ). Some (j.bytes ++ l)) (j.read.rest t) ∙ ap (λ (l : List ℕ). Some l) (append-nil j.bytes),
        j.read.short,
        j.judged,
      );
    }

too_long : (told : Type 0) (name bytes : List ℕ) (old mid new : World) → old.begun Proof ≡ Idle → Opened told Proof name old mid → Taken told Proof bytes mid new → most_proof_bytes < length bytes
    → IsTooLong told Proof name most_proof_bytes old new
too_long told name bytes old mid new idle opened taken long = record {
  only_read = only_read told name bytes old mid new idle opened (taken_so_far told Proof bytes mid new taken);
  read_faults = taken.read_faults ∙ opened.read_faults;
  begun = taken.begun ∙ opened.begun;
  file = λ t. (bytes ++ new.content.rest Proof, file_taken told name bytes old mid new opened taken t, omega (arith, length-append bytes (new.content.rest Proof)));
  content = taken_content told name bytes old mid new opened (taken_so_far told Proof bytes mid new taken);
}

-- ---- why it is not accepted

stops : (told : Type 0) (name : List ℕ) (f : Formula) (refusal : CheckRefusal) (old mid new : World) → old.begun Proof ≡ Idle → Opened told Proof name old mid → StopsCheck told f refusal mid new
    → StopsProof told name f (check_stop refusal) old new
stops told name f check.Failed old mid new idle opened stopped = record {
  only_read = only_read told name stopped.within.part.0 old mid new idle opened stopped.within.part.2;
  rose = let rose = stopped.rose in let before = opened.read_faults in omega arith;
}
stops told name f check.TooLong old mid new idle opened stopped = record { is = refl; too_long = too_long told name stopped.part.0 old mid new idle opened stopped.part.2 stopped.part.1 }
stops told name f (check.Proof refusal) old mid new idle opened stopped = record { verdict = stopped.verdict; is = stopped.is; judged = judged told name f stopped.verdict old mid new idle opened stopped.judged }
stops told name f check.NoMemory old mid new idle opened stopped = only_read told name stopped.part.0 old mid new idle opened stopped.part.2

pub proof_stops : (told : Type 0) (name : List ℕ) (f : Formula) (r : Result Claim Stop) (refusal : CheckRefusal) (old mid new : World) → old.begun Proof ≡ Idle → Opened told Proof name old mid
    → StopsCheck told f refusal mid new → IsErrAnd r (λ stop. stop ≡ check_stop refusal) → IfErr r (λ stop. StopsProof told name f stop old new)
proof_stops told name f (Ok claim) refusal old mid new idle opened stopped is = tt
proof_stops told name f (Err stop) refusal old mid new idle opened stopped is =
    subst (λ (s : Stop). StopsProof told name f s old new) (sym is) (stops told name f refusal old mid new idle opened stopped)
