-- The claim of a valid proof has numbers of at most 2^120.
use Rattle.std.proofs.Common.{◌≡◌, ℕ, ◌==◌, IsTrue, List, [], ◌∷◌, length, subst}
use Rattle.std.specs.Prelude.{Some, None}
use Rattle.pb_rows.specs.Formula.{Formula}
use Rattle.proof_lines.specs.declared.line.Claim.{Claim}
use Rattle.proof_lines.specs.declared.line.Line.{Line}
use Rattle.proof_lines.specs.declared.line.Line.TheVariants.{Header, Count, Output, Conclusion, End, Comment, Blank}
use Rattle.proof_lines.specs.Spelling.{is_small_claim}
use Rattle.proof_rules.specs.Refusals.{and_then}
use Rattle.proof_rules.specs.States.{State, after, first_state}
use Rattle.proof_rules.specs.Texts.{IsValidText, Reaches, Reading, all_lines}
use Rattle.proof_rules.specs.Valid.{Place, Start, Headed, Proving, Closing, Claimed, Done, next_place}
use Rattle.proof_rules.proofs.Made.{made_if, made_then}
use Rattle.proof_rules.proofs.Soundness.{to}

abbrev IsSmallPlace : Place → Type 0
IsSmallPlace Start = Unit {0}
IsSmallPlace Headed = Unit {0}
IsSmallPlace (Proving s) = Unit {0}
IsSmallPlace (Closing s) = Unit {0}
IsSmallPlace (Claimed c) = IsTrue (is_small_claim c)
IsSmallPlace (Done c) = IsTrue (is_small_claim c)

arrived : (here there : Place) → to here ≡ to there → IsSmallPlace here → IsSmallPlace there
arrived here there e h = let same : here ≡ there = cc in subst IsSmallPlace same h

stepped : (f : Formula) (s : State) (line : Line) (there : Place) → and_then (after f s line) (λ t. to (Proving t)) ≡ to there → IsSmallPlace there
stepped f s line there e = let made = made_then (after f s line) (λ t. to (Proving t)) there e in arrived (Proving made.0) there made.2 tt

counted : (f : Formula) (n : ℕ) (there : Place) → next_place f Headed (Count n) ≡ to there → IsSmallPlace there
counted f n there e = arrived (Proving (first_state f)) there (made_if (n == length f.rows) (to (Proving (first_state f))) _ there e).1 tt

claimed : (f : Formula) (s : State) (c : Claim) (there : Place) → next_place f (Closing s) (Conclusion c) ≡ to there → IsSmallPlace there
claimed f s c there e = let made = made_if (is_small_claim c) (to (Claimed c)) _ there e in arrived (Claimed c) there made.1 made.0

moved : (f : Formula) (here : Place) (line : Line) (there : Place) → IsSmallPlace here → next_place f here line ≡ to there → IsSmallPlace there
moved f Start Header there i e = arrived Headed there e i
moved f Start line there i e = absurd (cc)
moved f Headed (Count n) there i e = counted f n there e
moved f Headed Blank there i e = arrived Headed there e i
moved f Headed Comment there i e = arrived Headed there e i
moved f Headed line there i e = absurd (cc)
moved f (Proving s) Blank there i e = arrived (Proving s) there e i
moved f (Proving s) Comment there i e = arrived (Proving s) there e i
moved f (Proving s) Output there i e = arrived (Closing s) there e i
moved f (Proving s) line there i e = stepped f s line there e
moved f (Closing s) Blank there i e = arrived (Closing s) there e i
moved f (Closing s) Comment there i e = arrived (Closing s) there e i
moved f (Closing s) (Conclusion c) there i e = claimed f s c there e
moved f (Closing s) line there i e = absurd (cc)
moved f (Claimed c) Blank there i e = arrived (Claimed c) there e i
moved f (Claimed c) Comment there i e = arrived (Claimed c) there e i
moved f (Claimed c) End there i e = arrived (Done c) there e i
moved f (Claimed c) line there i e = absurd (cc)
moved f (Done c) Blank there i e = arrived (Done c) there e i
moved f (Done c) line there i e = absurd (cc)

reached : (f : Formula) (here : Place) (lines : Reading) (there : Place) → IsSmallPlace here → Reaches f here lines there → IsSmallPlace there
reached f here [] there i r = subst IsSmallPlace r i
reached f here (None ∷ lines) there i r = absurd r
reached f here (Some line ∷ lines) there i r = reached f r.0 lines there (moved f here line r.0 i r.1.leads) r.2

pub valid_claim_small : (f : Formula) (bytes : List ℕ) (claim : Claim) → IsValidText f bytes claim → IsTrue (is_small_claim claim)
valid_claim_small f bytes claim valid = reached f Start (all_lines bytes) (Done claim) tt valid
