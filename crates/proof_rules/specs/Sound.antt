-- What claims and states say of the points that satisfy a formula.
use Rattle.std.specs.Prelude.{◌≡◌, List, [], ◌∷◌, All, ℕ, ℤ, pos, ◌<ℤ◌, ◌≤ℤ◌, Option, Some, None}
use Rattle.hrt_base.specs.declared.literal.Term.{Term}
use Rattle.pb_rows.specs.Terms.{IsRisingFrom, PlainRow}
use Rattle.pb_rows.specs.Points.{Point, value_at}
use Rattle.pb_rows.specs.Rows.{AllHold}
use Rattle.pb_rows.specs.Formula.{Formula}
use Rattle.proof_lines.specs.declared.line.Claim.{Claim}
use Rattle.proof_lines.specs.declared.line.Claim.TheVariants.{Bounds, Unsat, Nothing}
use Rattle.proof_lines.specs.declared.line.Line.{Line}
use Rattle.proof_rules.specs.States.{State, live_rows}
use Rattle.proof_rules.specs.Valid.{IsValidProof}
use Rattle.proof_rules.specs.Texts.{IsValidText}

-- ---- claims

-- each point that satisfies the formula has an objective of at least the bound
abbrev pub IsLowerBound : Formula → Option ℤ → Type 0
IsLowerBound f None = Unit {0}
IsLowerBound f (Some l) = (p : Point) → AllHold p f.rows → l ≤ℤ value_at p f.objective

-- some point that satisfies the formula has an objective of at most the bound
abbrev pub IsUpperBound : Formula → Option ℤ → Type 0
IsUpperBound f None = Unit {0}
IsUpperBound f (Some u) = (p : Point) × AllHold p f.rows × (value_at p f.objective ≤ℤ u)

-- what the claim says of the formula is so: both bounds, that no point satisfies it, or nothing
abbrev pub IsTrueClaim : Formula → Claim → Type 0
IsTrueClaim f (Bounds lower upper) = IsLowerBound f lower × IsUpperBound f upper
IsTrueClaim f Unsat = (p : Point) → AllHold p f.rows → ⊥
IsTrueClaim f Nothing = Unit {0}

-- ---- states

-- the value is below the least logged one, or nothing is logged
abbrev pub IsBelow : Option ℤ → ℤ → Type 0
IsBelow None v = Unit {0}
IsBelow (Some w) v = v <ℤ w

-- the logged value is that of a point that satisfies the formula
abbrev pub IsLogged : Formula → Option ℤ → Type 0
IsLogged f None = Unit {0}
IsLogged f (Some w) = (p : Point) × AllHold p f.rows × (value_at p f.objective ≡ w)

-- no coefficient of the terms is negative
abbrev pub AreUnsigned : List Term → Type 0
AreUnsigned [] = Unit {0}
AreUnsigned (t ∷ ts) = (pos 0 ≤ℤ t.coef) × AreUnsigned ts

-- no coefficient of the row is negative
abbrev pub IsUnsigned : PlainRow → Type 0
IsUnsigned row = AreUnsigned row.terms

-- The live rows hold at each point that satisfies the formula and has a value below the least logged one. The logged value, if
-- any, is that of such a satisfying point, and no coefficient of a live row is negative.
pub record IsSoundState (f : Formula) (s : State) : Type 0 where
  pub rows_hold : (p : Point) → AllHold p f.rows → IsBelow s.least (value_at p f.objective) → AllHold p (live_rows s)
  pub logged : IsLogged f s.least
  pub unsigned : All IsUnsigned (live_rows s)

-- ---- all proofs

-- the formula's rows are in normal form: positive coefficients, and variables that rise
abbrev pub HasNormalRows : Formula → Type 0
HasNormalRows f = All (λ row. IsRisingFrom 0 row.terms) f.rows

-- whatever lines are a valid proof of a formula whose rows are in normal form, its claim is true
abbrev pub ProofsAreSound : Type 0
ProofsAreSound = (f : Formula) (lines : List Line) (claim : Claim) → HasNormalRows f → IsValidProof f lines claim → IsTrueClaim f claim

-- whatever bytes are a valid proof of a formula whose rows are in normal form, its claim is true
abbrev pub ProofTextsAreSound : Type 0
ProofTextsAreSound = (f : Formula) (bytes : List ℕ) (claim : Claim) → HasNormalRows f → IsValidText f bytes claim → IsTrueClaim f claim
