-- What a state shows of the objective.
use Rattle.std.specs.Prelude.{◌≡◌, ◌≤◌, ℤ, ◌≤ℤ◌, ◌⊎◌, Contains, Option, Some, None}
use Rattle.pb_rows.specs.Terms.{PlainRow}
use Rattle.pb_rows.specs.Normal.{normal_form}
use Rattle.pb_rows.specs.Closure.{Implies, Refuted, none}
use Rattle.pb_rows.specs.Formula.{Formula}
use Rattle.proof_lines.specs.declared.line.Claim.{Claim}
use Rattle.proof_lines.specs.declared.line.Claim.TheVariants.{Bounds, Unsat, Nothing}
use Rattle.proof_rules.specs.States.{State, live_rows}

-- a value at most u was logged
abbrev pub IsReached : Option ℤ → ℤ → Type 0
IsReached None u = ⊥
IsReached (Some v) u = v ≤ℤ u

-- no value below l was logged
abbrev pub IsUnpassed : Option ℤ → ℤ → Type 0
IsUnpassed None l = Unit {0}
IsUnpassed (Some v) l = l ≤ℤ v

-- objective >= l
abbrev pub at_least_row : Formula → ℤ → PlainRow
at_least_row f l = normal_form f.objective l

-- a live row has the same terms and at least the degree
abbrev pub HasStronger : State → PlainRow → Type 0
HasStronger s row = (other : PlainRow) × Contains (live_rows s) other × (other.terms ≡ row.terms) × (row.degree ≤ other.degree)

-- the lower bound, if any, is shown: no value below it was logged, and its row follows from the live rows or a stronger one is live
abbrev pub ShowsLower : Formula → State → Option ℤ → Type 0
ShowsLower f s None = Unit {0}
ShowsLower f s (Some l) = IsUnpassed s.least l × (Implies (live_rows s) (at_least_row f l) ⊎ HasStronger s (at_least_row f l))

-- the upper bound, if any, is shown: a value that is at most the bound was logged
abbrev pub ShowsUpper : State → Option ℤ → Type 0
ShowsUpper s None = Unit {0}
ShowsUpper s (Some u) = IsReached s.least u

-- nothing is logged, and the live rows are refuted
abbrev pub ShowsNone : State → Type 0
ShowsNone s = (s.least ≡ None) × Refuted (live_rows s) none

-- the state shows what the claim says: both bounds, that no point satisfies the formula, or nothing
abbrev pub Shows : Formula → State → Claim → Type 0
Shows f s (Bounds lower upper) = ShowsLower f s lower × ShowsUpper s upper
Shows f s Unsat = ShowsNone s
Shows f s Nothing = Unit {0}
