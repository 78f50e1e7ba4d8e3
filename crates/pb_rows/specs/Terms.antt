-- Literals and terms: coefficients, and lists of terms by rising variable.
use Rattle.std.specs.Prelude.{◌≤◌, ◌<◌, ◌+◌, ◌*◌, ◌==◌, ℕ, ℤ, pos, negsuc, Bool, not, if◌then◌else◌, nat_lt, List, [], ◌∷◌, min}
use Rattle.std.specs.Int.{div_ceil}
use Rattle.hrt_base.specs.declared.literal.Lit.{Lit}
use Rattle.hrt_base.specs.declared.literal.Term.{Term}

-- the other literal of the variable
abbrev pub opposite_lit : Lit → Lit
opposite_lit l = record { var = l.var; neg = not l.neg }

-- A row as it is written: the terms sum to at least the number. Coefficients may be negative or 0, variables may recur.
pub record Written : Type 0 where
  pub terms : List Term
  pub at_least : ℤ

-- A row: the coefficients of the true literals sum to at least the degree. That it is in normal form is said beside it.
pub record PlainRow : Type 0 where
  pub terms : List Term
  pub degree : ℕ

-- ---- coefficients

-- a number is above 0
abbrev pub IsPositive : ℤ → Type 0
IsPositive (pos n) = 0 < n
IsPositive (negsuc n) = ⊥

-- a number that is not negative as it is, and 0 for a negative one
abbrev pub positive_part : ℤ → ℕ
positive_part (pos n) = n
positive_part (negsuc n) = 0

-- the term of a literal with a coefficient that isn't negative
abbrev pub weighing : ℕ → Lit → Term
weighing n l = record { coef = pos n; lit = l }

-- the sum of the coefficients that aren't negative
abbrev pub coef_sum : List Term → ℕ
coef_sum [] = 0
coef_sum (t ∷ ts) = positive_part t.coef + coef_sum ts

-- positive coefficients, and variables that rise from `low` on
abbrev pub IsRisingFrom : ℕ → List Term → Type 0
IsRisingFrom low [] = Unit {0}
IsRisingFrom low (t ∷ ts) = (low ≤ t.lit.var) × IsPositive t.coef × IsRisingFrom (t.lit.var + 1) ts

-- ---- changed coefficients

-- the term with its coefficient changed by f, its literal as it was
abbrev pub reweighed : (ℕ → ℕ) → Term → Term
reweighed f t = weighing (f (positive_part t.coef)) t.lit

-- the term with its coefficient multiplied by k
abbrev pub scaled : ℕ → Term → Term
scaled k = reweighed (λ w. w * k)

-- the term with its coefficient divided by k and rounded up
abbrev pub divided : ℕ → Term → Term
divided k = reweighed (λ w. div_ceil w k)

-- the term with its coefficient lowered to `most` where it is above
abbrev pub capped : ℕ → Term → Term
capped most = reweighed (λ w. min w most)

-- whether the coefficient is above 0
abbrev pub is_present : Term → Bool
is_present t = nat_lt 0 (positive_part t.coef)

-- the term with the same coefficient on the opposite literal
abbrev pub negated : Term → Term
negated t = record t { lit = opposite_lit t.lit }

-- ---- one variable

-- whether the variable of a term is v
abbrev pub is_over : ℕ → Term → Bool
is_over v t = t.lit.var == v

-- the coefficient, where it isn't negative, of a term over v, else 0
abbrev pub part_over : ℕ → Term → ℕ
part_over v t = if is_over v t then positive_part t.coef else 0

-- the coefficient of a variable, or 0
abbrev pub weight_over : ℕ → List Term → ℕ
weight_over v [] = 0
weight_over v (t ∷ ts) = part_over v t + weight_over v ts
