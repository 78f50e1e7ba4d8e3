-- The bytes behind the last line feed.
use Rattle.std.proofs.Common.{◌≡◌, ℕ, ◌==◌, true, false, List, [], ◌∷◌, length, inl, refl, ◌∙◌}
use Rattle.std.specs.Prelude.{Option, Some, None, Result, Ok}
use Rattle.pb_rows.specs.Formula.{Formula}
use Rattle.proof_lines.specs.declared.line.Claim.{Claim}
use Rattle.proof_lines.specs.declared.line.Line.{Line}
use Rattle.proof_lines.specs.declared.line.Line.TheVariants.{Header, Count, Output, Conclusion, End, Comment, Blank}
use Rattle.proof_lines.specs.FirstLine.{is_blank, is_blank_text, is_end, is_end_text}
use Rattle.proof_lines.specs.Spelling.{is_small_claim, read_line}
use Rattle.proof_rules.specs.Refusals.{Refusal, Syntax, and_then}
use Rattle.proof_rules.specs.States.{State, after, first_state}
use Rattle.proof_rules.specs.Valid.{Claimed, Closing, Done, Headed, Place, Proving, Start, next_place}
use Rattle.proof_rules.specs.Texts.{Reaches, Stops, last_line}
use Rattle.proof_rules.proofs.Made.{made_if, made_then}
use Rattle.proof_checker.specs.declared.stage.Stage.{Stage}
use Rattle.proof_checker.specs.declared.stage.Stage.TheVariants as stage
use Rattle.proof_checker.specs.Places.{place_of}
use Rattle.proof_checker.specs.Endings.{EndsEarly, EndsWrong}

-- ---- behind the end line

blank_reaches : (f : Formula) (claim : Claim) (o : Option Line) → is_blank o ≡ true → Reaches f (Done claim) (o ∷ []) (Done claim)
blank_reaches f claim None e = absurd (cc e)
blank_reaches f claim (Some Blank) e = (Done claim, record { leads = refl; owed = tt }, refl)
blank_reaches f claim (Some line) e = absurd (cc e)

pub blank-ends : (f : Formula) (claim : Claim) (rest : List ℕ) → is_blank_text rest ≡ true → Reaches f (Done claim) (last_line rest) (Done claim)
blank-ends f claim [] e = refl
blank-ends f claim (b ∷ rest) e = blank_reaches f claim (read_line (b ∷ rest)) e

other_stops : (f : Formula) (claim : Claim) (o : Option Line) → is_blank o ≡ false → Stops f (Done claim) (o ∷ []) 0 Syntax
other_stops f claim None e = refl
other_stops f claim (Some Blank) e = absurd (cc e)
other_stops f claim (Some line) e = inl refl

rest_stops : (f : Formula) (claim : Claim) (rest : List ℕ) → is_blank_text rest ≡ false → Stops f (Done claim) (last_line rest) 0 Syntax
rest_stops f claim [] e = absurd (cc e)
rest_stops f claim (b ∷ rest) e = other_stops f claim (read_line (b ∷ rest)) e

pub others-wrong : (f : Formula) (claim : Claim) (rest : List ℕ) → is_blank_text rest ≡ false → EndsWrong f (Done claim) rest
others-wrong f claim rest e = record { claim = claim; done = refl; stops = rest_stops f claim rest e }

-- ---- where the end line is due

end_reaches : (f : Formula) (claim : Claim) (o : Option Line) → is_end o ≡ true → Reaches f (Claimed claim) (o ∷ []) (Done claim)
end_reaches f claim None e = absurd (cc e)
end_reaches f claim (Some End) e = (Done claim, record { leads = refl; owed = tt }, refl)
end_reaches f claim (Some line) e = absurd (cc e)

pub end-ends : (f : Formula) (claim : Claim) (rest : List ℕ) → is_end_text rest ≡ true → Reaches f (Claimed claim) (last_line rest) (Done claim)
end-ends f claim [] e = absurd (cc e)
end-ends f claim (b ∷ rest) e = end_reaches f claim (read_line (b ∷ rest)) e

abbrev to : Place → Result Place Refusal
to place = Ok place

claimed_stays : (c d : Claim) (there : Place) → to (Claimed c) ≡ to there → there ≡ Done d → ⊥
claimed_stays c d there e h = cc

not_end : (f : Formula) (c d : Claim) (line : Line) (there : Place) → is_end (Some line) ≡ false → next_place f (Claimed c) line ≡ to there → there ≡ Done d → ⊥
not_end f c d End there e h k = cc e
not_end f c d Blank there e h k = claimed_stays c d there h k
not_end f c d Comment there e h k = claimed_stays c d there h k
not_end f c d line there e h k = cc h

unended : (f : Formula) (c d : Claim) (o : Option Line) → is_end o ≡ false → Reaches f (Claimed c) (o ∷ []) (Done d) → ⊥
unended f c d None e r = r
unended f c d (Some line) e r = not_end f c d line r.0 e r.1.leads r.2

rest_unended : (f : Formula) (c d : Claim) (rest : List ℕ) → is_end_text rest ≡ false → Reaches f (Claimed c) (last_line rest) (Done d) → ⊥
rest_unended f c d [] e r = cc r
rest_unended f c d (b ∷ rest) e r = unended f c d (read_line (b ∷ rest)) e r

pub claimed-early : (f : Formula) (claim : Claim) (rest : List ℕ) → is_end_text rest ≡ false → EndsEarly f (Claimed claim) rest
claimed-early f claim rest e = record { not_done = λ d h. cc h; not_ended = λ d r. rest_unended f claim d rest e r }

-- ---- before

abbrev pub IsEarlier : Place → Type 0
IsEarlier (Claimed c) = ⊥
IsEarlier (Done c) = ⊥
IsEarlier place = Unit {0}

not_done_yet : (here : Place) (d : Claim) → IsEarlier here → here ≡ Done d → ⊥
not_done_yet Start d h e = cc e
not_done_yet Headed d h e = cc e
not_done_yet (Proving s) d h e = cc e
not_done_yet (Closing s) d h e = cc e
not_done_yet (Claimed c) d h e = h
not_done_yet (Done c) d h e = h

stays : (here there : Place) (d : Claim) → to here ≡ to there → (here ≡ Done d → ⊥) → there ≡ Done d → ⊥
stays here there d e h k = let same : here ≡ there = cc in h (same ∙ k)

from_step : (f : Formula) (s : State) (line : Line) (there : Place) (d : Claim) → and_then (after f s line) (λ t. to (Proving t)) ≡ to there → there ≡ Done d → ⊥
from_step f s line there d e k = let made = made_then (after f s line) (λ t. to (Proving t)) there e in stays (Proving made.0) there d made.2 (λ h. cc h) k

not_yet : (f : Formula) (here there : Place) (line : Line) (d : Claim) → IsEarlier here → next_place f here line ≡ to there → there ≡ Done d → ⊥
not_yet f Start there Header d h e k = stays Headed there d e (λ q. cc q) k
not_yet f Start there line d h e k = cc e
not_yet f Headed there (Count n) d h e k = stays (Proving (first_state f)) there d (made_if (n == length f.rows) (to (Proving (first_state f))) _ there e).1 (λ q. cc q) k
not_yet f Headed there Blank d h e k = stays Headed there d e (λ q. cc q) k
not_yet f Headed there Comment d h e k = stays Headed there d e (λ q. cc q) k
not_yet f Headed there line d h e k = cc e
not_yet f (Proving s) there Blank d h e k = stays (Proving s) there d e (λ q. cc q) k
not_yet f (Proving s) there Comment d h e k = stays (Proving s) there d e (λ q. cc q) k
not_yet f (Proving s) there Output d h e k = stays (Closing s) there d e (λ q. cc q) k
not_yet f (Proving s) there line d h e k = from_step f s line there d e k
not_yet f (Closing s) there Blank d h e k = stays (Closing s) there d e (λ q. cc q) k
not_yet f (Closing s) there Comment d h e k = stays (Closing s) there d e (λ q. cc q) k
not_yet f (Closing s) there (Conclusion c) d h e k = stays (Claimed c) there d (made_if (is_small_claim c) (to (Claimed c)) _ there e).1 (λ q. cc q) k
not_yet f (Closing s) there line d h e k = cc e
not_yet f (Claimed c) there line d h e k = h
not_yet f (Done c) there line d h e k = h

rest_not_yet : (f : Formula) (here : Place) (d : Claim) (o : Option Line) → IsEarlier here → Reaches f here (o ∷ []) (Done d) → ⊥
rest_not_yet f here d None h r = r
rest_not_yet f here d (Some line) h r = not_yet f here r.0 line d h r.1.leads r.2

none_yet : (f : Formula) (here : Place) (d : Claim) (rest : List ℕ) → IsEarlier here → Reaches f here (last_line rest) (Done d) → ⊥
none_yet f here d [] h r = not_done_yet here d h r
none_yet f here d (b ∷ rest) h r = rest_not_yet f here d (read_line (b ∷ rest)) h r

earlier : (s : Stage) (state : State) → ((c : Claim) → s ≡ stage.Claimed c → ⊥) → ((c : Claim) → s ≡ stage.Done c → ⊥) → IsEarlier (place_of s state)
earlier stage.Start state h k = tt
earlier stage.Headed state h k = tt
earlier stage.Proving state h k = tt
earlier stage.Closing state h k = tt
earlier (stage.Claimed c) state h k = h c refl
earlier (stage.Done c) state h k = k c refl

pub early : (f : Formula) (s : Stage) (state : State) (rest : List ℕ) → ((c : Claim) → s ≡ stage.Claimed c → ⊥) → ((c : Claim) → s ≡ stage.Done c → ⊥) → EndsEarly f (place_of s state) rest
early f s state rest h k = record {
  not_done = λ d e. not_done_yet (place_of s state) d (earlier s state h k) e;
  not_ended = λ d r. none_yet f (place_of s state) d rest (earlier s state h k) r;
}
