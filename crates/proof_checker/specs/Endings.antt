-- What came of the first line of some bytes, and of the bytes behind the last line feed.
use Rattle.std.specs.Prelude.{◌≡◌, ◌≤◌, ◌<◌, ◌+◌, ◌++◌, ℕ, false, List, [], ◌∷◌, length, drop, Option, Some, None, Result, Ok, Err, IfSome}
use Rattle.pb_rows.specs.Formula.{Formula}
use Rattle.proof_lines.specs.declared.line.Claim.{Claim}
use Rattle.proof_lines.specs.declared.line.Line.{Line}
use Rattle.proof_lines.specs.declared.refusal.LineKind.{LineKind}
use Rattle.proof_lines.specs.declared.refusal.LineRefusal.{LineRefusal}
use Rattle.proof_lines.specs.FirstLine.{Answers, first_line, kind_of}
use Rattle.proof_lines.specs.Spelling.{is_small_line}
use Rattle.proof_rules.specs.Refusals as why
use Rattle.proof_rules.specs.States.{State}
use Rattle.proof_rules.specs.Valid as place
use Rattle.proof_rules.specs.Valid.{Place}
use Rattle.proof_rules.specs.Texts.{Reaches, Reading, Stops, cut, last_line, whole_lines}
use Rattle.proof_checker.specs.declared.fault.Fault.{Fault}
use Rattle.proof_checker.specs.declared.refusal.ProofRefusal.{ProofRefusal}
use Rattle.proof_checker.specs.declared.refusal.ProofRefusal.TheVariants.{Syntax, Truncated}
use Rattle.proof_checker.specs.declared.stage.Stage.{Stage}
use Rattle.proof_checker.specs.Faults.{Halts, reason_of}
use Rattle.proof_checker.specs.Kept.{Kept}
use Rattle.proof_checker.specs.Places.{Goes, place_of}

-- a line of this kind with a number that is too big is refused so
abbrev pub TooBigAt : Stage → LineKind → Fault → Type 0
TooBigAt stage kind fault = (f : Formula) (s : State) (line : Line) → is_small_line line ≡ false → kind_of line ≡ kind → Halts f (place_of stage s) line fault

-- ---- the first line

-- it isn't read, for that reason
abbrev pub IsUnread : LineRefusal → List ℕ → Type 0
IsUnread refusal bytes = Answers (Err refusal) (first_line bytes)

-- the first line has that length with its line feed, and leads on
pub record TakesLine (f : Formula) (bytes : List ℕ) (from : Stage) (old : Kept) (to : Stage) (len : ℕ) (new : Kept) : Type 0 where
  pub line : Line
  pub goes : Goes f line from old to new
  pub whole : whole_lines bytes ≡ Some line ∷ whole_lines (drop len bytes)
  pub rest : (cut bytes).rest ≡ (cut (drop len bytes)).rest
  pub some : 0 < len
  pub within : len ≤ length bytes

-- a line was taken, or the bytes have no line feed
abbrev pub Takes : Formula → List ℕ → Stage → Kept → Option (Stage × ℕ) → Kept → Type 0
Takes f bytes from old None new = cut bytes ≡ record { whole = []; rest = bytes }
Takes f bytes from old (Some taken) new = TakesLine f bytes from old taken.0 taken.1 new

-- the first line is refused
abbrev pub StopsFirst : Formula → Place → List ℕ → Fault → Type 0
StopsFirst f here bytes fault = IfSome (reason_of fault) (Stops f here (whole_lines bytes) 0)

-- ---- the bytes behind the last line feed

-- the proof isn't done at the place, and the bytes don't end it
pub record EndsEarly (f : Formula) (here : Place) (rest : List ℕ) : Type 0 where
  pub not_done : (claim : Claim) → here ≡ place.Done claim → ⊥
  pub not_ended : (claim : Claim) → Reaches f here (last_line rest) (place.Done claim) → ⊥

-- the proof is done at the place, and the bytes are one more line, refused for its syntax
pub record EndsWrong (f : Formula) (here : Place) (rest : List ℕ) : Type 0 where
  pub claim : Claim
  pub done : here ≡ place.Done claim
  pub stops : Stops f here (last_line rest) 0 why.Syntax

-- they end the proof, or are a line behind the end that is refused, or the proof isn't ended
abbrev pub EndsWith : Formula → Place → List ℕ → ℕ → Result Claim ProofRefusal → Type 0
EndsWith f here rest line (Ok claim) = Reaches f here (last_line rest) (place.Done claim)
EndsWith f here rest line (Err Truncated) = EndsEarly f here rest
EndsWith f here rest line (Err (Syntax n)) = (n ≡ line) × EndsWrong f here rest
EndsWith f here rest line (Err other) = ⊥

-- ---- the lines so far

-- So many lines stand before the bytes that are left, and lead to the place.
pub record IsPassed (f : Formula) (bytes left : List ℕ) (lines : ℕ) (here : Place) : Type 0 where
  pub done : Reading
  pub count : length done ≡ lines
  pub reaches : Reaches f place.Start done here
  pub whole : whole_lines bytes ≡ done ++ whole_lines left
  pub rest : (cut bytes).rest ≡ (cut left).rest
  pub within : lines + length left ≤ length bytes
