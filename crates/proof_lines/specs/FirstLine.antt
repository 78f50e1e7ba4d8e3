-- What the first line of some bytes reads as.
use Rattle.std.specs.Prelude.{◌≡◌, ℕ, ◌+◌, Bool, false, true, ◌==◌, if◌then◌else◌, List, take, position, Option, Some, None, Result, Ok, Err}
use Rattle.proof_lines.specs.declared.line.Line.{Line}
use Rattle.proof_lines.specs.declared.line.Line.TheVariants.{Rup, Conclusion, End, Blank}
use Rattle.proof_lines.specs.declared.refusal.LineKind.{LineKind}
use Rattle.proof_lines.specs.declared.refusal.LineKind.TheVariants.{Pol as pol_kind, Rup as rup_kind, Conclusion as conclusion_kind}
use Rattle.proof_lines.specs.declared.refusal.LineRefusal.{LineRefusal}
use Rattle.proof_lines.specs.declared.refusal.LineRefusal.TheVariants.{Syntax, TooBig, NoMemory}
use Rattle.proof_lines.specs.Spelling.{is_small_line, read_line}

-- the kind of a line with a number past 2^120, which only `pol`, `rup` and `conclusion` lines can have; `pol` for every other
-- line
abbrev pub kind_of : Line → LineKind
kind_of (Rup row) = rup_kind
kind_of (Conclusion claim) = conclusion_kind
kind_of line = pol_kind

-- a line that is spelled and small, or why it is refused
abbrev pub judged : Option Line → Result Line LineRefusal
judged None = Err Syntax
judged (Some line) = if is_small_line line then Ok line else Err (TooBig (kind_of line))

-- the line with its length, or the refusal
abbrev pub counted : ℕ → Result Line LineRefusal → Result (Option (Line × ℕ)) LineRefusal
counted n (Ok line) = Ok (Some (line, n))
counted n (Err refusal) = Err refusal

-- the line that a line feed at the place ends
abbrev pub line_to : List ℕ → Option ℕ → Result (Option (Line × ℕ)) LineRefusal
line_to bytes None = Ok None
line_to bytes (Some i) = counted (i + 1) (judged (read_line (take i bytes)))

-- The line up to the first line feed and its length with that, None where there is no line feed, or why the line is refused.
abbrev pub first_line : List ℕ → Result (Option (Line × ℕ)) LineRefusal
first_line bytes = line_to bytes (position (λ b. b == 10) bytes)

-- the answer is this one, unless memory is wanting
abbrev pub Answers : {A : Type 0} → Result A LineRefusal → Result A LineRefusal → Type 0
Answers (Ok x) wanted = wanted ≡ Ok x
Answers (Err NoMemory) wanted = Unit {0}
Answers (Err Syntax) wanted = wanted ≡ Err Syntax
Answers (Err (TooBig kind)) wanted = wanted ≡ Err (TooBig kind)

-- the line ends the proof; one without a spelling doesn't
abbrev pub is_end : Option Line → Bool
is_end None = false
is_end (Some End) = true
is_end (Some line) = false

-- the bytes are the end line, without a line feed
abbrev pub is_end_text : List ℕ → Bool
is_end_text bytes = is_end (read_line bytes)

-- the line has no tokens; one without a spelling isn't blank
abbrev pub is_blank : Option Line → Bool
is_blank None = false
is_blank (Some Blank) = true
is_blank (Some line) = false

-- the bytes are a blank line, without a line feed
abbrev pub is_blank_text : List ℕ → Bool
is_blank_text bytes = is_blank (read_line bytes)
