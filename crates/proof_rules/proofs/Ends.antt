-- Whole lines that lead to a place, and what ends a proof after them.
use Rattle.std.proofs.Common.{◌≡◌, ℕ, List, [], ◌∷◌, ◌++◌, refl, sym, ap, ap₂, ◌∙◌, subst}
use Rattle.std.specs.Prelude.{codes}
use Rattle.std.proofs.lemmas.List.{append_assoc}
use Rattle.pb_rows.specs.Formula.{Formula}
use Rattle.proof_lines.specs.declared.line.Claim.{Claim}
use Rattle.proof_lines.specs.declared.line.Claim.TheVariants.{Nothing}
use Rattle.proof_rules.specs.States.{State}
use Rattle.proof_rules.specs.Valid.{Claimed, Closing, Done, Place, Proving, Start}
use Rattle.proof_rules.specs.Texts.{Cut, IsValidText, Reaches, Reading, all_lines, cut, last_line, whole_lines}
use Rattle.proof_rules.proofs.Pieces.{cut-whole, reaches-append, whole-append}

all-append : (bytes more : List ℕ) → (cut bytes).rest ≡ [] → all_lines (bytes ++ more) ≡ whole_lines bytes ++ all_lines more
all-append bytes more e =
    ap₂ (λ (lines : Reading) (rest : List ℕ). lines ++ last_line rest) (whole-append bytes more e) (ap (λ (c : Cut). c.rest) (cut-whole bytes more e))
    ∙ append_assoc (whole_lines bytes) (whole_lines more) (last_line (cut more).rest)

-- and more that ends the proof
pub whole-valid : (f : Formula) (bytes more : List ℕ) (here : Place) (claim : Claim) → (cut bytes).rest ≡ [] → Reaches f Start (whole_lines bytes) here → Reaches f here (all_lines more) (Done claim) →
    IsValidText f (bytes ++ more) claim
whole-valid f bytes more here claim e r s =
    subst (λ (lines : Reading). Reaches f Start lines (Done claim)) (sym (all-append bytes more e)) (reaches-append f Start (whole_lines bytes) (all_lines more) here (Done claim) r s)

-- ---- every proof can be ended with no claim

ending : List ℕ
ending = codes "output NONE" ++ 10 ∷ codes "conclusion NONE" ++ 10 ∷ codes "end pseudo-Boolean proof" ++ 10 ∷ []

ends : (f : Formula) (s : State) → Reaches f (Proving s) (all_lines ending) (Done Nothing)
unfolding ending
ends f s = (Closing s, record { leads = refl; owed = tt }, (Claimed Nothing, record { leads = refl; owed = tt }, (Done Nothing, record { leads = refl; owed = tt }, refl)))

-- so whole lines that are steps are the front of a valid proof
pub can-end : (f : Formula) (bytes : List ℕ) (s : State) → (cut bytes).rest ≡ [] → Reaches f Start (whole_lines bytes) (Proving s) → (more : List ℕ) × IsValidText f (bytes ++ more) Nothing
can-end f bytes s e r = (ending, whole-valid f bytes ending (Proving s) Nothing e r (ends f s))
