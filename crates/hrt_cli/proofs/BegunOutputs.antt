-- Outputs that are begun, and written in part or whole.
use Rattle.std.proofs.Common.{◌≡◌, ◌⊎◌, ℕ, List, [], ◌∷◌, length, take, refl, sym, ◌∙◌, ap, subst, arith, inl, inr}
use Rattle.std.proofs.lemmas.List.{length-map, take_all}
use Rattle.hrt_base.specs.declared.numbered.PairNo.{PairNo}
use Rattle.hrt_base.specs.declared.port.Port.{Port}
use Rattle.hrt_base.specs.declared.port.Port.TheVariants.{Instance, Pairs, Model, Proof, Report, ModelTwo, ProofTwo}
use Rattle.hrt_base.specs.declared.host.Begun.{Begun}
use Rattle.hrt_base.specs.declared.host.Begun.TheVariants.{Idle, Reading, Writing}
use Rattle.hrt_base.specs.Calls.{NotWritten, Sealed, Sent, SentFront, SentSoFar, Started}
use Rattle.hrt_base.specs.World.{World, Content, appended, put, sealed, started}
use Rattle.rank_tables.specs.Instance.{Lists}
use Rattle.opb_text.specs.Spelling.{model_text}
use Rattle.promotion_heuristic.specs.Promotion.{promotion}
use Rattle.hrt_solve.specs.declared.ends.SolveEnd.{SolveEnd}
use Rattle.hrt_solve.specs.Gauged.{found_claim}
use Rattle.hrt_solve.specs.Writing.{IsProof, IsSolvedQuickly, SentBoth, SentFrontBehind, StopsWriting}
use Rattle.hrt_cli.specs.Outputs.{Output, both, output, text_on}
use Rattle.hrt_cli.specs.Outcomes.{first_claim}
use Rattle.hrt_cli.specs.Writing.{AreBegun, IsWritten, SavesBoth, SavesInPart, Writes, WritesAll, WritesFronts, WritesNothing}

-- ---- ports

abbrev begun_both : (Port → Begun) → Port → Begun
begun_both f = put Proof Writing (put Model Writing f)

abbrev sealed_both : (Port → Begun) → Port → Begun
sealed_both f = put Proof Idle (put Model Idle (begun_both f))

begun_readers : (f : Port → Begun) (p : Port) → begun_both f p ≡ Reading → f p ≡ Reading
begun_readers f Instance e = e
begun_readers f Pairs e = e
begun_readers f Model e = absurd (let w : Writing ≡ Reading = e in cc)
begun_readers f Proof e = absurd (let w : Writing ≡ Reading = e in cc)
begun_readers f Report e = e
begun_readers f ModelTwo e = e
begun_readers f ProofTwo e = e

model_readers : (f : Port → Begun) (p : Port) → put Model Writing f p ≡ Reading → f p ≡ Reading
model_readers f Instance e = e
model_readers f Pairs e = e
model_readers f Model e = absurd (let w : Writing ≡ Reading = e in cc)
model_readers f Proof e = e
model_readers f Report e = e
model_readers f ModelTwo e = e
model_readers f ProofTwo e = e

half_readers : (f : Port → Begun) (p : Port) → put Model Idle (begun_both f) p ≡ Reading → f p ≡ Reading
half_readers f Instance e = e
half_readers f Pairs e = e
half_readers f Model e = absurd (let w : Idle ≡ Reading = e in cc)
half_readers f Proof e = absurd (let w : Writing ≡ Reading = e in cc)
half_readers f Report e = e
half_readers f ModelTwo e = e
half_readers f ProofTwo e = e

sealed_readers : (f : Port → Begun) (p : Port) → sealed_both f p ≡ Reading → f p ≡ Reading
sealed_readers f Instance e = e
sealed_readers f Pairs e = e
sealed_readers f Model e = absurd (let w : Idle ≡ Reading = e in cc)
sealed_readers f Proof e = absurd (let w : Idle ≡ Reading = e in cc)
sealed_readers f Report e = e
sealed_readers f ModelTwo e = e
sealed_readers f ProofTwo e = e

sealed_writers : (f : Port → Begun) (p : Port) → sealed_both f p ≡ Writing → f p ≡ Writing
sealed_writers f Instance e = e
sealed_writers f Pairs e = e
sealed_writers f Model e = absurd (let w : Idle ≡ Writing = e in cc)
sealed_writers f Proof e = absurd (let w : Idle ≡ Writing = e in cc)
sealed_writers f Report e = e
sealed_writers f ModelTwo e = e
sealed_writers f ProofTwo e = e

-- ---- content

abbrev started_both : List ℕ → List ℕ → Content → Content
started_both name proof c = started Proof proof (started Model name c)

abbrev with_model : List ℕ → List ℕ → List ℕ → Content → Content
with_model name proof text c = sealed Model (appended Model text (started_both name proof c))

as_it_was : (c : Content) → IsWritten [] [] c c
as_it_was c = record { name = refl; rest = λ p. refl; sent_is = λ none p. none p; silent = refl; files = λ name. refl }

model_started : (name : List ℕ) (c : Content) → IsWritten [] [] c (started Model name c)
model_started name c = record {
  name = refl;
  rest = λ p. refl;
  sent_is = sent;
  silent = refl;
  files = λ n. refl;
}
  where
    sent : ((p : Port) → c.sent p ≡ []) → (p : Port) → (started Model name c).sent p ≡ text_on p []
    sent none Instance = none Instance
    sent none Pairs = none Pairs
    sent none Model = refl
    sent none Proof = none Proof
    sent none Report = none Report
    sent none ModelTwo = none ModelTwo
    sent none ProofTwo = none ProofTwo

none_sent : (name proof : List ℕ) (c : Content) → IsWritten [] [] c (started_both name proof c)
none_sent name proof c = record {
  name = refl;
  rest = λ p. refl;
  sent_is = sent;
  silent = refl;
  files = λ n. refl;
}
  where
    sent : ((p : Port) → c.sent p ≡ []) → (p : Port) → (started_both name proof c).sent p ≡ text_on p []
    sent none Instance = none Instance
    sent none Pairs = none Pairs
    sent none Model = refl
    sent none Proof = refl
    sent none Report = none Report
    sent none ModelTwo = none ModelTwo
    sent none ProofTwo = none ProofTwo

model_part : (name proof text : List ℕ) (c : Content) → IsWritten (output Model name text ∷ []) [] c (appended Model text (started_both name proof c))
model_part name proof text c = record {
  name = refl;
  rest = λ p. refl;
  sent_is = sent;
  silent = refl;
  files = λ n. refl;
}
  where
    sent : ((p : Port) → c.sent p ≡ []) → (p : Port) → (appended Model text (started_both name proof c)).sent p ≡ text_on p (output Model name text ∷ [])
    sent none Instance = none Instance
    sent none Pairs = none Pairs
    sent none Model = refl
    sent none Proof = refl
    sent none Report = none Report
    sent none ModelTwo = none ModelTwo
    sent none ProofTwo = none ProofTwo

abbrev two_texts : List ℕ → List ℕ → List ℕ → List ℕ → List Output
two_texts name proof text lines = output Model name text ∷ output Proof proof lines ∷ []

proof_part : (name proof text lines : List ℕ) (c : Content) → IsWritten (two_texts name proof text lines) (output Model name text ∷ []) c (appended Proof lines (with_model name proof text c))
proof_part name proof text lines c = record {
  name = refl;
  rest = λ p. refl;
  sent_is = sent;
  silent = refl;
  files = λ n. refl;
}
  where
    sent : ((p : Port) → c.sent p ≡ []) → (p : Port) → (appended Proof lines (with_model name proof text c)).sent p ≡ text_on p (two_texts name proof text lines)
    sent none Instance = none Instance
    sent none Pairs = none Pairs
    sent none Model = refl
    sent none Proof = refl
    sent none Report = none Report
    sent none ModelTwo = none ModelTwo
    sent none ProofTwo = none ProofTwo

both_sealed : (name proof text lines : List ℕ) (c : Content) → IsWritten (two_texts name proof text lines) (two_texts name proof text lines) c (sealed Proof (appended Proof lines (with_model name proof text c)))
both_sealed name proof text lines c =
    let part = proof_part name proof text lines c in record { name = part.name; rest = part.rest; sent_is = part.sent_is; silent = refl; files = λ n. refl }

-- ---- outputs that are begun

pub are_begun : (told : Type 0) (name proof : List ℕ) (w v u : World) → Started told Model name w v → Started told Proof proof v u → AreBegun told name proof w u
are_begun told name proof w v u first second = record {
  no_fault = record { read_faults = second.read_faults ∙ first.read_faults; write_faults = second.write_faults ∙ first.write_faults };
  begun = second.begun ∙ ap (put Proof Writing) first.begun;
  content = λ t. second.content t ∙ ap (started Proof proof) (first.content t);
}

pub none_begun : (told : Type 0) (w v : World) → NotWritten told w v → WritesNothing told w v
none_begun told w v failed = record {
  later = failed.later;
  report = ap (λ (f : Port → Begun). f Report) failed.begun;
  readers = λ p reading. sym (ap (λ (f : Port → Begun). f p) failed.begun) ∙ reading;
  content = λ t. subst (IsWritten [] [] w.content) (sym (failed.content t)) (as_it_was w.content);
}

pub one_begun : (told : Type 0) (name : List ℕ) (w v u : World) → Started told Model name w v → NotWritten told v u → WritesNothing told w u
one_begun told name w v u first failed =
    let begun : u.begun ≡ put Model Writing w.begun = failed.begun ∙ first.begun in
    record {
      later = omega (arith, first.write_faults, failed.later);
      report = ap (λ (f : Port → Begun). f Report) begun;
      readers = λ p reading. model_readers w.begun p (sym (ap (λ (f : Port → Begun). f p) begun) ∙ reading);
      content = λ t. subst (IsWritten [] [] w.content) (sym (failed.content t ∙ first.content t)) (model_started name w.content);
    }

pub nothing_done : (told : Type 0) (w : World) → WritesNothing told w w
nothing_done told w = record { later = omega arith; report = refl; readers = λ p reading. reading; content = λ t. as_it_was w.content }

-- ---- a model alone

one_part : (name text : List ℕ) (c : Content) → IsWritten (output Model name text ∷ []) [] c (appended Model text (started Model name c))
one_part name text c = record {
  name = refl;
  rest = λ p. refl;
  sent_is = sent;
  silent = refl;
  files = λ n. refl;
}
  where
    sent : ((p : Port) → c.sent p ≡ []) → (p : Port) → (appended Model text (started Model name c)).sent p ≡ text_on p (output Model name text ∷ [])
    sent none Instance = none Instance
    sent none Pairs = none Pairs
    sent none Model = refl
    sent none Proof = none Proof
    sent none Report = none Report
    sent none ModelTwo = none ModelTwo
    sent none ProofTwo = none ProofTwo

one_sealed : (name text : List ℕ) (c : Content) → IsWritten (output Model name text ∷ []) (output Model name text ∷ []) c (sealed Model (appended Model text (started Model name c)))
one_sealed name text c = let part = one_part name text c in record { name = part.name; rest = part.rest; sent_is = part.sent_is; silent = part.silent; files = λ n. refl }

idle_readers : (f : Port → Begun) (p : Port) → put Model Idle (put Model Writing f) p ≡ Reading → f p ≡ Reading
idle_readers f Instance e = e
idle_readers f Pairs e = e
idle_readers f Model e = absurd (let w : Idle ≡ Reading = e in cc)
idle_readers f Proof e = e
idle_readers f Report e = e
idle_readers f ModelTwo e = e
idle_readers f ProofTwo e = e

idle_writers : (f : Port → Begun) (p : Port) → put Model Idle (put Model Writing f) p ≡ Writing → f p ≡ Writing
idle_writers f Instance e = e
idle_writers f Pairs e = e
idle_writers f Model e = absurd (let w : Idle ≡ Writing = e in cc)
idle_writers f Proof e = e
idle_writers f Report e = e
idle_writers f ModelTwo e = e
idle_writers f ProofTwo e = e

pub model_saved : (told : Type 0) (name text : List ℕ) (w v u x : World) → Started told Model name w v → Sent told Model text v u → Sealed told Model u x → WritesAll told (output Model name text ∷ []) w x
model_saved told name text w v u x first second third =
    let begun : x.begun ≡ put Model Idle (put Model Writing w.begun) = third.begun ∙ ap (put Model Idle) (second.begun ∙ first.begun) in
    let read_faults : x.read_faults ≡ w.read_faults = third.read_faults ∙ second.read_faults ∙ first.read_faults in
    let write_faults : x.write_faults ≡ w.write_faults = third.write_faults ∙ second.write_faults ∙ first.write_faults in
    record {
      no_fault = record { read_faults = read_faults; write_faults = write_faults };
      writes = record {
        later = omega (arith, write_faults);
        report = ap (λ (f : Port → Begun). f Report) begun;
        readers = λ p reading. idle_readers w.begun p (sym (ap (λ (f : Port → Begun). f p) begun) ∙ reading);
        content = λ t.
            subst (IsWritten (output Model name text ∷ []) (output Model name text ∷ []) w.content)
            (sym (third.content t ∙ ap (sealed Model) (second.content t) ∙ ap (λ (c : Content). sealed Model (appended Model text c)) (first.content t))) (one_sealed name text w.content);
      };
      writers = λ p writing. idle_writers w.begun p (sym (ap (λ (f : Port → Begun). f p) begun) ∙ writing);
    }

front_sent : (told : Type 0) (name text : List ℕ) (k : ℕ) (w v u : World) → Started told Model name w v → SentSoFar told Model (take k text) v u → WritesFronts told (output Model name text ∷ []) w u
front_sent told name text k w v u first second =
    let begun : u.begun ≡ put Model Writing w.begun = second.begun ∙ first.begun in
    record {
      whole = 0;
      count = k;
      writes = record {
        later = omega (arith, first.write_faults, second.later);
        report = ap (λ (f : Port → Begun). f Report) begun;
        readers = λ p reading. model_readers w.begun p (sym (ap (λ (f : Port → Begun). f p) begun) ∙ reading);
        content = λ t.
            subst (IsWritten (output Model name (take k text) ∷ []) [] w.content) (sym (second.content t ∙ ap (appended Model (take k text)) (first.content t))) (one_part name (take k text) w.content);
      };
    }

pub model_fronts : (told : Type 0) (name text : List ℕ) (w v u : World) → Started told Model name w v → SentFront told Model text v u → WritesFronts told (output Model name text ∷ []) w u
model_fronts told name text w v u first front = front_sent told name text front.front.0 w v u first front.front.1

-- the text was written whole, and then the host failed to seal it
pub model_unsealed : (told : Type 0) (name text : List ℕ) (w v u x : World) → Started told Model name w v → Sent told Model text v u → NotWritten told u x → WritesFronts told (output Model name text ∷ []) w x
model_unsealed told name text w v u x first second failed = front_sent told name text (length text) w v x first (record {
  later = omega (arith, second.write_faults, failed.later);
  read_faults = failed.read_faults ∙ second.read_faults;
  begun = failed.begun ∙ second.begun;
  content = λ t. failed.content t ∙ second.content t ∙ ap (λ (l : List ℕ). appended Model l v.content) (sym (take_all (length text) text (omega arith)));
})

-- ---- outputs that are written in part

begun_only : (told : Type 0) (name proof : List ℕ) (w v u : World) → AreBegun told name proof w v → u ≡ v → WritesNothing told w u
begun_only told name proof w v u are same = subst (WritesNothing told w) (sym same) (record {
  later = omega (arith, are.no_fault.write_faults);
  report = ap (λ (f : Port → Begun). f Report) are.begun;
  readers = λ p reading. begun_readers w.begun p (sym (ap (λ (f : Port → Begun). f p) are.begun) ∙ reading);
  content = λ t. subst (IsWritten [] [] w.content) (sym (are.content t)) (none_sent name proof w.content);
})

model_front : (told : Type 0) (name proof text : List ℕ) (w v u : World) → AreBegun told name proof w v → (front : SentFront told Model text v u) → Writes told (output Model name (take front.front.0 text) ∷ []) [] w u
model_front told name proof text w v u are front =
    let k = front.front.0 in
    let sent = front.front.1 in
    let begun : u.begun ≡ begun_both w.begun = sent.begun ∙ are.begun in
    record {
      later = omega (arith, are.no_fault.write_faults, sent.later);
      report = ap (λ (f : Port → Begun). f Report) begun;
      readers = λ p reading. begun_readers w.begun p (sym (ap (λ (f : Port → Begun). f p) begun) ∙ reading);
      content = λ t.
          subst (IsWritten (output Model name (take k text) ∷ []) [] w.content) (sym (sent.content t ∙ ap (appended Model (take k text)) (are.content t)))
          (model_part name proof (take k text) w.content);
    }

proof_front : (told : Type 0) (name proof : List ℕ) (lists : Lists) (text : List ℕ) (w v u : World) → AreBegun told name proof w v → (behind : SentFrontBehind told lists text v u)
    → Writes told (two_texts name proof (model_text lists) (take behind.proof.front.0 text)) (output Model name (model_text lists) ∷ []) w u
proof_front told name proof lists text w v u are behind =
    let k = behind.proof.front.0 in
    let sent = behind.proof.front.1 in
    let model = behind.model in
    let begun : u.begun ≡ put Model Idle (begun_both w.begun) = sent.begun ∙ model.begun ∙ ap (put Model Idle) are.begun in
    record {
      later = omega (arith, are.no_fault.write_faults, model.write_faults, sent.later);
      report = ap (λ (f : Port → Begun). f Report) begun;
      readers = λ p reading. half_readers w.begun p (sym (ap (λ (f : Port → Begun). f p) begun) ∙ reading);
      content = λ t.
          subst (IsWritten (two_texts name proof (model_text lists) (take k text)) (output Model name (model_text lists) ∷ []) w.content)
          (sym (sent.content t ∙ ap (appended Proof (take k text)) (model.content t) ∙ ap (λ (c : Content). appended Proof (take k text) (sealed Model (appended Model (model_text lists) c))) (are.content t)))
          (proof_part name proof (model_text lists) (take k text) w.content);
    }

pub saved_in_part : (told : Type 0) (Is : List ℕ → Type 0) (lists : Lists) (name proof : List ℕ) (w v u : World) → AreBegun told name proof w v → StopsWriting told Is lists v u → SavesInPart told Is lists name proof w u
saved_in_part told Is lists name proof w v u are (inl same) = inl (begun_only told name proof w v u are same)
saved_in_part told Is lists name proof w v u are (inr part) = by part.sent
  where
    by : SentFront told Model (model_text lists) v u ⊎ SentFrontBehind told lists part.text v u → SavesInPart told Is lists name proof w u
    by (inl front) = inr (record {
      text = part.text;
      is = part.is;
      fronts = record { whole = 0; count = front.front.0; writes = model_front told name proof (model_text lists) w v u are front };
    })
    by (inr behind) = inr (record {
      text = part.text;
      is = part.is;
      fronts = record { whole = 1; count = behind.proof.front.0; writes = proof_front told name proof lists part.text w v u are behind };
    })

-- ---- outputs that are written whole

written_whole : (told : Type 0) (name proof : List ℕ) (lists : Lists) (text : List ℕ) (w v u : World) → AreBegun told name proof w v → SentBoth told lists text v u → WritesAll told (both name proof lists text) w u
written_whole told name proof lists text w v u are sent =
    let begun : u.begun ≡ sealed_both w.begun = sent.proof.begun ∙ ap (put Proof Idle) sent.model.begun ∙ ap (λ (f : Port → Begun). put Proof Idle (put Model Idle f)) are.begun in
    let read_faults : u.read_faults ≡ w.read_faults = sent.proof.read_faults ∙ sent.model.read_faults ∙ are.no_fault.read_faults in
    let write_faults : u.write_faults ≡ w.write_faults = sent.proof.write_faults ∙ sent.model.write_faults ∙ are.no_fault.write_faults in
    record {
      no_fault = record { read_faults = read_faults; write_faults = write_faults };
      writes = record {
        later = omega (arith, write_faults);
        report = ap (λ (f : Port → Begun). f Report) begun;
        readers = λ p reading. sealed_readers w.begun p (sym (ap (λ (f : Port → Begun). f p) begun) ∙ reading);
        content = λ t.
            subst (IsWritten (both name proof lists text) (both name proof lists text) w.content)
            (sym (sent.proof.content t ∙ ap (λ (c : Content). sealed Proof (appended Proof text c)) (sent.model.content t)
            ∙ ap (λ (c : Content). sealed Proof (appended Proof text (sealed Model (appended Model (model_text lists) c)))) (are.content t)))
            (both_sealed name proof (model_text lists) text w.content);
      };
      writers = λ p writing. sealed_writers w.begun p (sym (ap (λ (f : Port → Begun). f p) begun) ∙ writing);
    }

pub both_saved : (told : Type 0) (Is : List ℕ → Type 0) (lists : Lists) (name proof text : List ℕ) (w v u : World) → AreBegun told name proof w v → Is text → SentBoth told lists text v u → SavesBoth told Is lists name proof w u
both_saved told Is lists name proof text w v u are is sent = record { text = text; is = is; saved = written_whole told name proof lists text w v u are sent }

-- the listed pairs are the promotion's, and no row was learned
first_proof : (lists : Lists) (text : List ℕ) (top size learned : ℕ) → size ≡ length (promotion lists) → learned ≡ 0 → IsProof lists text (found_claim top size) learned → IsProof lists text (first_claim lists top) 0
first_proof lists text top size learned e f proof =
    subst (λ (n : ℕ). IsProof lists text (found_claim top n) 0) e (subst (λ (n : ℕ). IsProof lists text (found_claim top size) n) f proof)

pub match_saved : (told : Type 0) (lists : Lists) (end : SolveEnd) (name proof : List ℕ) (w v u : World) → AreBegun told name proof w v → IsSolvedQuickly told lists end v u
    → SavesBoth told (λ text. IsProof lists text (first_claim lists end.ceiling) 0) lists name proof w u
match_saved told lists end name proof w v u are solved =
    let said = solved.said in
    let size : length end.pairs.items ≡ length (promotion lists) = sym (length-map end.pairs.items (λ (p : PairNo). p.0)) ∙ ap length said.pairs_are in
    both_saved told (λ text. IsProof lists text (first_claim lists end.ceiling) 0) lists name proof solved.proof.text w v u are
    (first_proof lists solved.proof.text end.ceiling (length end.pairs.items) end.conflicts size said.conflicts_are solved.proof.is_proof) solved.proof.sent
