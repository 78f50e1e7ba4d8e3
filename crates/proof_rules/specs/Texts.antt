-- Valid proofs, as bytes.
use Rattle.std.specs.Prelude.{◌≡◌, ℕ, zero, suc, ◌+◌, ◌==◌, if◌then◌else◌, List, [], ◌∷◌, ◌++◌, map, ◌⊎◌, Option, Some, None}
use Rattle.pb_rows.specs.Formula.{Formula}
use Rattle.proof_lines.specs.declared.line.Claim.{Claim}
use Rattle.proof_lines.specs.declared.line.Line.{Line}
use Rattle.proof_lines.specs.Spelling.{read_line}
use Rattle.proof_rules.specs.Refusals.{Refusal, RefusalAt, Syntax}
use Rattle.proof_rules.specs.Valid.{Place, Start, Done, Moves}
use Rattle.proof_rules.specs.Refused.{Refuses}

-- ---- the lines of a text

-- the lines that a line feed ends, and the bytes after the last one
pub record Cut : Type 0 where
  pub whole : List (List ℕ)
  pub rest : List ℕ

-- the cut with a byte that is no line feed before it: the byte begins the first line, or the rest where no line is whole
abbrev pub into_first : ℕ → List ℕ → List (List ℕ) → Cut
into_first b rest [] = record { whole = []; rest = b ∷ rest }
into_first b rest (line ∷ lines) = record { whole = (b ∷ line) ∷ lines; rest = rest }

-- the cut with any byte before it: a line feed ends a first line that is empty
abbrev pub with_byte : ℕ → Cut → Cut
with_byte b c = if b == 10 then record { whole = [] ∷ c.whole; rest = c.rest } else into_first b c.rest c.whole

-- the bytes of a text, cut at their line feeds
abbrev pub cut : List ℕ → Cut
cut [] = record { whole = []; rest = [] }
cut (b ∷ bytes) = with_byte b (cut bytes)

-- each line, or None where it has no spelling
abbrev pub Reading : Type 0
Reading = List (Option Line)

-- the lines that a line feed ends, as they are read
abbrev pub whole_lines : List ℕ → Reading
whole_lines bytes = map read_line (cut bytes).whole

-- the one line that bytes after the last line feed are read as, or none where there are no such bytes
abbrev pub last_line : List ℕ → Reading
last_line [] = []
last_line (b ∷ bytes) = read_line (b ∷ bytes) ∷ []

-- bytes after the last line feed are one more line
abbrev pub all_lines : List ℕ → Reading
all_lines bytes = whole_lines bytes ++ last_line (cut bytes).rest

-- ---- where they lead

-- each line has a spelling, and one after another they lead from here to there
abbrev pub Reaches : Formula → Place → Reading → Place → Type 0
Reaches f here [] there = here ≡ there
Reaches f here (None ∷ lines) there = ⊥
Reaches f here (Some line ∷ lines) there = (next : Place) × Moves f here line next × Reaches f next lines there

-- the line with n lines before it is the first that is refused
abbrev pub Stops : Formula → Place → Reading → ℕ → Refusal → Type 0
Stops f here [] n why = ⊥
Stops f here (None ∷ lines) zero why = why ≡ Syntax
Stops f here (None ∷ lines) (suc n) why = ⊥
Stops f here (Some line ∷ lines) zero why = Refuses f here line why
Stops f here (Some line ∷ lines) (suc n) why = (next : Place) × Moves f here line next × Stops f next lines n why

-- ---- verdicts

-- the bytes, read as lines, are a valid proof that ends with this claim
abbrev pub IsValidText : Formula → List ℕ → Claim → Type 0
IsValidText f bytes claim = Reaches f Start (all_lines bytes) (Done claim)

-- The line with n lines before it is refused. Bytes after the last line feed are refused only after the end line.
abbrev pub IsRefusedText : Formula → List ℕ → ℕ → Refusal → Type 0
IsRefusedText f bytes n why =
    Stops f Start (whole_lines bytes) n why
    ⊎ ((claim : Claim) × Reaches f Start (whole_lines bytes) (Done claim) × Stops f Start (all_lines bytes) n why)

-- the line with this number, counted from 1, is refused for this reason
abbrev pub IsRefusedAt : Formula → List ℕ → RefusalAt → Type 0
IsRefusedAt f bytes refusal = (n : ℕ) × (refusal.line ≡ n + 1) × IsRefusedText f bytes n refusal.why

-- all whole lines are steps, and the bytes end before the end line
pub record IsTruncated (f : Formula) (bytes : List ℕ) : Type 0 where
  pub here : Place
  pub reaches : Reaches f Start (whole_lines bytes) here
  pub not_done : (claim : Claim) → here ≡ Done claim → ⊥
  pub not_ended : (claim : Claim) → IsValidText f bytes claim → ⊥

-- ---- all of them

-- what can be said of a text: it is a valid proof of a claim, or one of its lines is refused, or it ends too early
pub data Verdict : Type 0 where
  Accepted : Claim → Verdict
  Refused : RefusalAt → Verdict
  Truncated : Verdict

-- what the verdict says of the text is so
abbrev pub HasVerdict : Formula → List ℕ → Verdict → Type 0
HasVerdict f bytes (Accepted claim) = IsValidText f bytes claim
HasVerdict f bytes (Refused refusal) = IsRefusedAt f bytes refusal
HasVerdict f bytes Truncated = IsTruncated f bytes

-- no text has two verdicts
abbrev pub OneVerdict : Type 0
OneVerdict = (f : Formula) (bytes : List ℕ) (a b : Verdict) → HasVerdict f bytes a → HasVerdict f bytes b → a ≡ b
