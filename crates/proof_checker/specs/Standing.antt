-- What a checker shows of the bytes that it was fed, and for which texts it stands.
use Rattle.std.specs.Prelude.{◌≡◌, ◌↔◌, ℕ, ◌+◌, ◌≤◌, nat_le, if◌then◌else◌, List, ◌++◌, length, Option, Some, None, Bool, true, false}
use Rattle.pb_rows.specs.Formula.{Formula}
use Rattle.opb_text.specs.Limits.{IsWithinLimits}
use Rattle.proof_lines.specs.Spelling.{most_bytes}
use Rattle.proof_rules.specs.Refusals.{RefusalAt}
use Rattle.proof_rules.specs.Valid.{Place, Start}
use Rattle.proof_rules.specs.Texts.{Reaches, Stops, cut, whole_lines}
use Rattle.proof_checker.specs.declared.phase.Phase.{Phase}
use Rattle.proof_checker.specs.declared.phase.Phase.TheVariants.{Reading, Finished}
use Rattle.proof_checker.specs.Limits.{most_proof_bytes}

-- The formula, all bytes that were fed, and what the checker does next.
pub record Checked : Type 0 where
  pub formula : Formula
  pub bytes : List ℕ
  pub phase : Phase

-- what a checker was fed
pub record IsFed (formula : Formula) (bytes : List ℕ) : Type 0 where
  pub limits : IsWithinLimits formula
  pub few : length bytes ≤ most_proof_bytes

-- it hasn't judged yet
abbrev pub is_open : Phase → Bool
is_open Finished = false
is_open phase = true

-- ---- where a text leads to

-- To a place, after so many whole lines and with an unfinished line, or to the refusal of a line.
pub data Led : Type 0 where
  Here : Place → ℕ → Option (List ℕ) → Led
  Stopped : RefusalAt → Led

-- an unfinished line; of one of more than 16,777,216 bytes, only that it is so long
abbrev pub unfinished : List ℕ → Option (List ℕ)
unfinished rest = if nat_le (length rest) most_bytes then Some rest else None

-- the text leads to the place, with so many whole lines and that unfinished line, or to that refusal
abbrev pub LeadsTo : Formula → List ℕ → Led → Type 0
LeadsTo f bytes (Here place lines line) = Reaches f Start (whole_lines bytes) place × (length (whole_lines bytes) ≡ lines) × (unfinished (cut bytes).rest ≡ line)
LeadsTo f bytes (Stopped refusal) = (n : ℕ) × (refusal.line ≡ n + 1) × Stops f Start (whole_lines bytes) n refusal.why

-- A checker that still takes bytes stands for each text that leads to the same as the bytes that it was fed.
pub record StandsFor (text : List ℕ) (checked : Checked) : Type 0 where
  pub reading : checked.phase ≡ Reading
  pub leads : (led : Led) → LeadsTo checked.formula checked.bytes led ↔ LeadsTo checked.formula text led

-- for whatever text it stood before, it stands for that text with the piece behind it
abbrev pub StaysStanding : List ℕ → Checked → Checked → Type 0
StaysStanding piece old new = (text : List ℕ) → StandsFor text old → StandsFor (text ++ piece) new
