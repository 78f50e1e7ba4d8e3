-- The lines that were sent, as fronts of the text that has a line for each number.
use Rattle.std.proofs.Common.{◌≡◌, ℕ, zero, suc, ◌+◌, ◌<◌, inl, inr, List, [], ◌++◌, sym, ap, subst, ◌∙◌, add-one, append_assoc, arith}
use Rattle.std.proofs.lemmas.Bool.{cases_eq}
use Rattle.std.proofs.lemmas.List.{append-nil}
use Rattle.hrt_base.specs.declared.port.Port.{Port}
use Rattle.hrt_base.specs.World.{World}
use Rattle.hrt_base.specs.Calls.{Sent, SentFront}
use Rattle.hrt_base.proofs.Fronts.{BeginsWith, front_of, front_then}
use Rattle.hrt_base.proofs.Pieces.{sent_more}
use Rattle.opb_text.specs.Sending.{lines_to}

pub line_sent : (told : Type 0) (port : Port) (line : ℕ → List ℕ) (k : ℕ) (w v u : World) → Sent told port (lines_to line k) w v → Sent told port (line k) v u
    → Sent told port (lines_to line (k + 1)) w u
line_sent told port line k w v u first second = rw add-one (sent_more told port (lines_to line k) (line k) w v u first second)

first_lines : (line : ℕ → List ℕ) (k n : ℕ) → k < n → BeginsWith (lines_to line k ++ line k) (lines_to line n)
first_lines line k zero h = absurd (omega arith)
first_lines line k (suc n) h = elim (cases_eq n k) [
  | inl same ↦ record { rest = []; is = subst (λ (j : ℕ). lines_to line n ++ line n ≡ (lines_to line j ++ line j) ++ []) same (sym (append-nil (lines_to line n ++ line n))) }
  | inr other ↦
      let before = first_lines line k n (omega arith) in
      record { rest = before.rest ++ line n; is = ap (λ (l : List ℕ). l ++ line n) before.is ∙ append_assoc (lines_to line k ++ line k) before.rest (line n) }
]

pub line_front : (told : Type 0) (port : Port) (line : ℕ → List ℕ) (k n : ℕ) (w v u : World) → k < n → Sent told port (lines_to line k) w v → SentFront told port (line k) v u
    → SentFront told port (lines_to line n) w u
line_front told port line k n w v u h first second =
    front_of told port (lines_to line k ++ line k) (lines_to line n) w u (first_lines line k n h) (front_then told port (lines_to line k) (line k) w v u first second)
