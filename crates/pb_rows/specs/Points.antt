-- Values of terms at a point.
use Rattle.std.specs.Prelude.{◌≤◌, ◌<◌, ◌+◌, ◌-◌, ℕ, ℤ, pos, ◌+ℤ◌, Bool, false, not, if◌then◌else◌, List, [], ◌∷◌, slice_index_or}
use Rattle.hrt_base.specs.declared.literal.Lit.{Lit}
use Rattle.hrt_base.specs.declared.literal.Term.{Term}
use Rattle.pb_rows.specs.Terms.{positive_part}

-- A point gives each variable a value.
abbrev pub Point : Type 0
Point = ℕ → Bool

-- whether a literal is true at a point
abbrev pub is_true_at : Point → Lit → Bool
is_true_at p l = if l.neg then not (p l.var) else p l.var

-- the coefficient, where it isn't negative, of a term whose literal is true, else 0
abbrev pub share : Point → Term → ℕ
share p t = if is_true_at p t.lit then positive_part t.coef else 0

-- the sum of the coefficients of the true literals
abbrev pub true_sum : Point → List Term → ℕ
true_sum p [] = 0
true_sum p (t ∷ ts) = share p t + true_sum p ts

-- the coefficient, with its sign, of a term whose literal is true, else 0
abbrev pub signed_share : Point → Term → ℤ
signed_share p t = if is_true_at p t.lit then t.coef else pos 0

-- the sum of the coefficients, with their signs, of the true literals
abbrev pub value_at : Point → List Term → ℤ
value_at p [] = pos 0
value_at p (t ∷ ts) = signed_share p t +ℤ value_at p ts

-- the point that an array gives: variable v stands at place v - 1
abbrev pub point_of : List Bool → Point
point_of bits v = slice_index_or bits (v - 1) false

-- the variable has a place among n
pub record IsCovered (n var : ℕ) : Type 0 where
  pub first : 0 < var
  pub last : var ≤ n
