-- Why a line is refused.
use Rattle.std.specs.Prelude.{◌≡◌, ◌⊎◌, Ok, Err}
use Rattle.pb_rows.specs.Formula.{Formula}
use Rattle.proof_lines.specs.declared.line.Line.{Line}
use Rattle.proof_rules.specs.Refusals.{Refusal, NotImplied, BoundNotShown}
use Rattle.proof_rules.specs.Valid.{Place, Closing, next_place, Owed}

-- the refusal of a line that leads on but whose debt isn't met
abbrev pub unmet : Place → Refusal
unmet (Closing s) = BoundNotShown
unmet place = NotImplied

-- it leads to a place, but what it owes isn't so
pub record IsUnmet (f : Formula) (here : Place) (line : Line) (why : Refusal) : Type 0 where
  pub there : Place
  pub leads : next_place f here line ≡ Ok there
  pub fails : Owed f here line → ⊥
  pub why_is : why ≡ unmet here

-- the line is refused here for this reason: it leads nowhere, or what it owes isn't so
abbrev pub Refuses : Formula → Place → Line → Refusal → Type 0
Refuses f here line why = (next_place f here line ≡ Err why) ⊎ IsUnmet f here line why
