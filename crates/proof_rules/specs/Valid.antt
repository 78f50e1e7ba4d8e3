-- Valid proofs, as lists of lines.
use Rattle.std.specs.Prelude.{◌≡◌, ◌==◌, if◌then◌else◌, length, List, [], ◌∷◌, Result, Ok, Err}
use Rattle.pb_rows.specs.Formula.{Formula}
use Rattle.proof_lines.specs.declared.line.Claim.{Claim}
use Rattle.proof_lines.specs.declared.line.Line.{Line}
use Rattle.proof_lines.specs.declared.line.Line.TheVariants.{Header, Count, Output, Conclusion, End, Comment, Blank}
use Rattle.proof_lines.specs.Spelling.{is_small_claim}
use Rattle.proof_rules.specs.Refusals.{Refusal, Syntax, TooBig, WrongCount, and_then}
use Rattle.proof_rules.specs.States.{State, first_state, after, Follows}
use Rattle.proof_rules.specs.Claims.{Shows}

-- ---- the order of the lines

-- where a proof is between two lines, and so which lines are due
pub data Place : Type 0 where
  Start : Place  -- the header is due
  Headed : Place  -- the count is due
  Proving : State → Place  -- steps, or the output line
  Closing : State → Place  -- the conclusion is due
  Claimed : Claim → Place  -- the end line is due
  Done : Claim → Place  -- blank lines alone

-- Where the line leads to, or why not, but for what is owed. The order of lines is looked at before the line's numbers.
abbrev pub next_place : Formula → Place → Line → Result Place Refusal
next_place f Start Header = Ok Headed
next_place f Start line = Err Syntax
next_place f (Done c) Blank = Ok (Done c)
next_place f (Done c) line = Err Syntax
next_place f place Blank = Ok place
next_place f place Comment = Ok place
next_place f Headed (Count n) = if n == length f.rows then Ok (Proving (first_state f)) else Err WrongCount
next_place f (Proving s) Output = Ok (Closing s)
next_place f (Proving s) line = and_then (after f s line) (λ t. Ok (Proving t))
next_place f (Closing s) (Conclusion c) = if is_small_claim c then Ok (Claimed c) else Err TooBig
next_place f (Claimed c) End = Ok (Done c)
next_place f place line = Err Syntax

-- a `rup` line owes that its row follows, a conclusion that its claim is shown
abbrev pub Owed : Formula → Place → Line → Type 0
Owed f (Proving s) line = Follows s line
Owed f (Closing s) (Conclusion c) = Shows f s c
Owed f place line = Unit {0}

-- the line leads from here to there
pub record Moves (f : Formula) (here : Place) (line : Line) (there : Place) : Type 0 where
  pub leads : next_place f here line ≡ Ok there
  pub owed : Owed f here line

-- one after another the lines lead from here to there
abbrev pub Leads : Formula → Place → List Line → Place → Type 0
Leads f here [] there = here ≡ there
Leads f here (line ∷ lines) there = (next : Place) × Moves f here line next × Leads f next lines there

-- the lines are a valid proof that ends with this claim
abbrev pub IsValidProof : Formula → List Line → Claim → Type 0
IsValidProof f lines claim = Leads f Start lines (Done claim)
