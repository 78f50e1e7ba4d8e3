-- A text has one verdict at most, and what is accepted is true.
use Rattle.std.proofs.Common.{◌≡◌, ℕ, zero, suc, ◌+◌, ap₂, List, [], ◌∷◌, ◌++◌, inl, inr, refl, sym, ap, ◌∙◌, subst}
use Rattle.std.specs.Prelude.{Some, None, Result, Ok, Err}
use Rattle.pb_rows.specs.Formula.{Formula}
use Rattle.proof_lines.specs.declared.line.Claim.{Claim}
use Rattle.proof_lines.specs.declared.line.Line.{Line}
use Rattle.proof_lines.specs.declared.line.Line.TheVariants.{Header, Count, Pol, Rup, Soli, Del, Output, Conclusion, End, Comment, Blank}
use Rattle.proof_rules.specs.Refusals.{Refusal, RefusalAt, and_then}
use Rattle.proof_rules.specs.States.{State, Step}
use Rattle.proof_rules.specs.Valid.{Place, Start, Proving, Done, next_place, Moves}
use Rattle.proof_rules.specs.Refused.{Refuses}
use Rattle.proof_rules.specs.Texts.{Accepted, IsRefusedAt, IsRefusedText, IsTruncated, IsValidText, OneVerdict, Reaches, Reading, Refused, Stops, Truncated, all_lines, cut, last_line, whole_lines}
use Rattle.proof_rules.specs.Sound.{ProofTextsAreSound}
use Rattle.proof_rules.proofs.Soundness.{IsSoundPlace, to, moved}

-- ---- what is accepted is true

pub reached-sound : (f : Formula) (here : Place) (lines : Reading) (there : Place) → IsSoundPlace f here → Reaches f here lines there → IsSoundPlace f there
reached-sound f here [] there i r = subst (IsSoundPlace f) r i
reached-sound f here (None ∷ lines) there i r = absurd r
reached-sound f here (Some line ∷ lines) there i r = reached-sound f r.0 lines there (moved f here line r.0 i r.1.leads r.1.owed) r.2

pub texts_sound : ProofTextsAreSound
texts_sound f bytes claim n valid = reached-sound f Start (all_lines bytes) (Done claim) n valid

-- ---- one line

same_place : (r : Result Place Refusal) (a b : Place) → r ≡ Ok a → r ≡ Ok b → a ≡ b
same_place r a b e h = cc

pub moves-unique : (f : Formula) (here : Place) (line : Line) (a b : Place) → Moves f here line a → Moves f here line b → a ≡ b
moves-unique f here line a b m n = same_place (next_place f here line) a b m.leads n.leads

ok_not_err : (r : Result Place Refusal) (a : Place) (why : Refusal) → r ≡ Ok a → r ≡ Err why → ⊥
ok_not_err r a why e h = cc

pub moves-not_refused : (f : Formula) (here : Place) (line : Line) (a : Place) (why : Refusal) → Moves f here line a → Refuses f here line why → ⊥
moves-not_refused f here line a why m (inl e) = ok_not_err (next_place f here line) a why m.leads e
moves-not_refused f here line a why m (inr u) = u.fails m.owed

same_refusal : (r : Result Place Refusal) (a b : Refusal) → r ≡ Err a → r ≡ Err b → a ≡ b
same_refusal r a b e h = cc

pub refusals-unique : (f : Formula) (here : Place) (line : Line) (a b : Refusal) → Refuses f here line a → Refuses f here line b → a ≡ b
refusals-unique f here line a b (inl e) (inl h) = same_refusal (next_place f here line) a b e h
refusals-unique f here line a b (inl e) (inr v) = absurd (ok_not_err (next_place f here line) v.there a v.leads e)
refusals-unique f here line a b (inr u) (inl h) = absurd (ok_not_err (next_place f here line) u.there b u.leads h)
refusals-unique f here line a b (inr u) (inr v) = u.why_is ∙ sym v.why_is

-- ---- lists of lines

pub reaches-unique : (f : Formula) (here : Place) (lines : Reading) (a b : Place) → Reaches f here lines a → Reaches f here lines b → a ≡ b
reaches-unique f here [] a b r s = sym r ∙ s
reaches-unique f here (None ∷ lines) a b r s = absurd r
reaches-unique f here (Some line ∷ lines) a b r s =
    reaches-unique f r.0 lines a b r.2 (subst (λ (p : Place). Reaches f p lines b) (moves-unique f here line s.0 r.0 s.1 r.1) s.2)

pub reaches-not_stopped : (f : Formula) (here : Place) (lines : Reading) (a : Place) (n : ℕ) (why : Refusal) → Reaches f here lines a → Stops f here lines n why → ⊥
reaches-not_stopped f here [] a n why r s = s
reaches-not_stopped f here (None ∷ lines) a n why r s = r
reaches-not_stopped f here (Some line ∷ lines) a zero why r s = moves-not_refused f here line r.0 why r.1 s
reaches-not_stopped f here (Some line ∷ lines) a (suc n) why r s =
    reaches-not_stopped f r.0 lines a n why r.2 (subst (λ (p : Place). Stops f p lines n why) (moves-unique f here line s.0 r.0 s.1 r.1) s.2)

-- the lines before the last ones lead somewhere
pub reaches-front : (f : Formula) (here : Place) (lines more : Reading) (there : Place) → Reaches f here (lines ++ more) there → (middle : Place) × Reaches f here lines middle × Reaches f middle more there
reaches-front f here [] more there r = (here, refl, r)
reaches-front f here (None ∷ lines) more there r = absurd r
reaches-front f here (Some line ∷ lines) more there r =
    let rest = reaches-front f r.0 lines more there r.2 in
    (rest.0, (r.0, r.1, rest.1), rest.2)

-- ---- texts

done_claim : (a b : Claim) → Done a ≡ Done b → a ≡ b
done_claim a b e = cc

pub claim-unique : (f : Formula) (bytes : List ℕ) (a b : Claim) → IsValidText f bytes a → IsValidText f bytes b → a ≡ b
claim-unique f bytes a b v w = done_claim a b (reaches-unique f Start (all_lines bytes) (Done a) (Done b) v w)

pub valid-not_refused : (f : Formula) (bytes : List ℕ) (claim : Claim) (n : ℕ) (why : Refusal) → IsValidText f bytes claim → IsRefusedText f bytes n why → ⊥
valid-not_refused f bytes claim n why v (inl s) =
    let front = reaches-front f Start (whole_lines bytes) (last_line (cut bytes).rest) (Done claim) v in
    reaches-not_stopped f Start (whole_lines bytes) front.0 n why front.1 s
valid-not_refused f bytes claim n why v (inr s) = reaches-not_stopped f Start (all_lines bytes) (Done claim) n why v s.2

pub truncated-not_refused : (f : Formula) (bytes : List ℕ) (n : ℕ) (why : Refusal) → IsTruncated f bytes → IsRefusedText f bytes n why → ⊥
truncated-not_refused f bytes n why t (inl s) = reaches-not_stopped f Start (whole_lines bytes) t.here n why t.reaches s
truncated-not_refused f bytes n why t (inr s) = t.not_done s.0 (reaches-unique f Start (whole_lines bytes) t.here (Done s.0) t.reaches s.1)

-- the first refused line, and why it is
pub stops-unique : (f : Formula) (here : Place) (lines : Reading) (n m : ℕ) (a b : Refusal) → Stops f here lines n a → Stops f here lines m b → (n ≡ m) × (a ≡ b)
stops-unique f here [] n m a b s t = absurd s
stops-unique f here (None ∷ lines) zero zero a b s t = (refl, s ∙ sym t)
stops-unique f here (None ∷ lines) (suc n) m a b s t = absurd s
stops-unique f here (None ∷ lines) zero (suc m) a b s t = absurd t
stops-unique f here (Some line ∷ lines) zero zero a b s t = (refl, refusals-unique f here line a b s t)
stops-unique f here (Some line ∷ lines) zero (suc m) a b s t = absurd (moves-not_refused f here line t.0 a t.1 s)
stops-unique f here (Some line ∷ lines) (suc n) zero a b s t = absurd (moves-not_refused f here line s.0 b s.1 t)
stops-unique f here (Some line ∷ lines) (suc n) (suc m) a b s t =
    let rest = stops-unique f s.0 lines n m a b s.2 (subst (λ (p : Place). Stops f p lines m b) (moves-unique f here line t.0 s.0 t.1 s.1) t.2) in
    (ap suc rest.0, rest.1)

pub refused-unique : (f : Formula) (bytes : List ℕ) (n m : ℕ) (a b : Refusal) → IsRefusedText f bytes n a → IsRefusedText f bytes m b → (n ≡ m) × (a ≡ b)
refused-unique f bytes n m a b (inl s) (inl t) = stops-unique f Start (whole_lines bytes) n m a b s t
refused-unique f bytes n m a b (inr s) (inr t) = stops-unique f Start (all_lines bytes) n m a b s.2 t.2
refused-unique f bytes n m a b (inl s) (inr t) = absurd (reaches-not_stopped f Start (whole_lines bytes) (Done t.0) n a t.1 s)
refused-unique f bytes n m a b (inr s) (inl t) = absurd (reaches-not_stopped f Start (whole_lines bytes) (Done s.0) m b s.1 t)

same_at : (a b : RefusalAt) → a.line ≡ b.line → a.why ≡ b.why → a ≡ b
same_at a b e h = ap₂ (λ (n : ℕ) (why : Refusal). record { line = n; why = why }) e h

refused_at-unique : (f : Formula) (bytes : List ℕ) (a b : RefusalAt) → IsRefusedAt f bytes a → IsRefusedAt f bytes b → a ≡ b
refused_at-unique f bytes a b r s =
    let same = refused-unique f bytes r.0 s.0 a.why b.why r.2 s.2 in
    same_at a b (r.1 ∙ ap (λ (n : ℕ). n + 1) same.0 ∙ sym s.1) same.1

pub one_verdict : OneVerdict
one_verdict f bytes (Accepted a) (Accepted b) h k = ap Accepted (claim-unique f bytes a b h k)
one_verdict f bytes (Accepted a) (Refused b) h k = absurd (valid-not_refused f bytes a k.0 b.why h k.2)
one_verdict f bytes (Accepted a) Truncated h k = absurd (k.not_ended a h)
one_verdict f bytes (Refused a) (Accepted b) h k = absurd (valid-not_refused f bytes b h.0 a.why k h.2)
one_verdict f bytes (Refused a) (Refused b) h k = ap Refused (refused_at-unique f bytes a b h k)
one_verdict f bytes (Refused a) Truncated h k = absurd (truncated-not_refused f bytes h.0 a.why k h.2)
one_verdict f bytes Truncated (Accepted b) h k = absurd (h.not_ended b k)
one_verdict f bytes Truncated (Refused b) h k = absurd (truncated-not_refused f bytes k.0 b.why h k.2)
one_verdict f bytes Truncated Truncated h k = refl

-- ---- by the whole lines, and the bytes that are left

-- the bytes that are left end a valid proof, where the whole lines don't
pub valid-rest : (f : Formula) (bytes : List ℕ) (here : Place) (claim : Claim) → Reaches f Start (whole_lines bytes) here → IsValidText f bytes claim → Reaches f here (last_line (cut bytes).rest) (Done claim)
valid-rest f bytes here claim r v =
    let front = reaches-front f Start (whole_lines bytes) (last_line (cut bytes).rest) (Done claim) v in
    subst (λ (p : Place). Reaches f p (last_line (cut bytes).rest) (Done claim)) (reaches-unique f Start (whole_lines bytes) front.0 here front.1 r) front.2

-- where they don't, the proof is truncated
pub truncated-from : (f : Formula) (bytes : List ℕ) (here : Place) → Reaches f Start (whole_lines bytes) here → ((claim : Claim) → here ≡ Done claim → ⊥) →
    ((claim : Claim) → Reaches f here (last_line (cut bytes).rest) (Done claim) → ⊥) → IsTruncated f bytes
truncated-from f bytes here r n e = record { here = here; reaches = r; not_done = n; not_ended = λ claim v. e claim (valid-rest f bytes here claim r v) }

-- ---- steps

stays : (s t : State) (r : Result State Refusal) → r ≡ Ok t → and_then r (λ u. to (Proving u)) ≡ to (Proving t)
stays s t r e = ap (λ (q : Result State Refusal). and_then q (λ u. to (Proving u))) e

-- a step of the state is a move between steps
pub step-moves : (f : Formula) (s : State) (line : Line) (t : State) → Step f s line t → Moves f (Proving s) line (Proving t)
step-moves f s Header t step = record { leads = stays s t _ step.leads; owed = step.follows }
step-moves f s (Count n) t step = record { leads = stays s t _ step.leads; owed = step.follows }
step-moves f s (Pol steps) t step = record { leads = stays s t _ step.leads; owed = step.follows }
step-moves f s (Rup w) t step = record { leads = stays s t _ step.leads; owed = step.follows }
step-moves f s (Soli ls) t step = record { leads = stays s t _ step.leads; owed = step.follows }
step-moves f s (Del ids) t step = record { leads = stays s t _ step.leads; owed = step.follows }
step-moves f s Output t step = absurd (cc (step.leads))
step-moves f s (Conclusion c) t step = record { leads = stays s t _ step.leads; owed = step.follows }
step-moves f s End t step = record { leads = stays s t _ step.leads; owed = step.follows }
step-moves f s Comment t step = absurd (cc (step.leads))
step-moves f s Blank t step = absurd (cc (step.leads))
