-- Rows, the operations on them, and their laws.
use Rattle.std.specs.Prelude.{◌≡◌, ◌≤◌, ◌+◌, ◌*◌, ◌-◌, ◌^◌, ◌↔◌, ℕ, ℤ, pos, ◌≤ℤ◌, Bool, true, not, nat_le, IsTrue, List, [], ◌∷◌, ◌++◌, map, filter, All}
use Rattle.std.specs.Int.{div_ceil}
use Rattle.hrt_base.specs.declared.literal.Lit.{Lit}
use Rattle.hrt_base.specs.declared.literal.Term.{Term}
use Rattle.pb_rows.specs.Terms.{IsRisingFrom, PlainRow, Written, capped, coef_sum, divided, is_over, is_present, negated, scaled, weighing, weight_over}
use Rattle.pb_rows.specs.Points.{Point, true_sum, value_at}
use Rattle.pb_rows.specs.Normal.{normal_form}

-- whether the coefficients of the true literals sum to at least the degree
abbrev pub holds : Point → PlainRow → Bool
holds p r = nat_le r.degree (true_sum p r.terms)

-- every row holds at the point
abbrev pub AllHold : Point → List PlainRow → Type 0
AllHold p rows = All (λ r. IsTrue (holds p r)) rows

-- ---- the operations

-- the row that a written one means
abbrev pub in_normal_form : Written → PlainRow
in_normal_form w = normal_form w.terms w.at_least

-- coefficients and degrees are added: the normal form of all terms together
abbrev pub add : PlainRow → PlainRow → PlainRow
add a b = normal_form (a.terms ++ b.terms) (pos (a.degree + b.degree))

-- every number multiplied by k
abbrev pub times : ℕ → PlainRow → PlainRow
times k r = record { terms = map (scaled k) r.terms; degree = r.degree * k }

-- every number divided and rounded up
abbrev pub divide : ℕ → PlainRow → PlainRow
divide k r = record { terms = map (divided k) r.terms; degree = div_ceil r.degree k }

-- each coefficient becomes the smaller of itself and the degree, and terms with 0 go
abbrev pub saturate : PlainRow → PlainRow
saturate r = record r { terms = filter is_present (map (capped r.degree) r.terms) }

-- the variable goes, and its coefficient is taken from the degree, not below 0
abbrev pub weaken : ℕ → PlainRow → PlainRow
weaken v r = record { terms = filter (λ t. not (is_over v t)) r.terms; degree = r.degree - weight_over v r.terms }

-- the variables go, one after another
abbrev pub weaken_all : List ℕ → PlainRow → PlainRow
weaken_all [] r = r
weaken_all (v ∷ vs) r = weaken_all vs (weaken v r)

-- the opposite literals with the same coefficients, to at least their sum plus 1 minus the degree: it holds exactly where the
-- row doesn't
abbrev pub opposite_row : PlainRow → PlainRow
opposite_row r = record { terms = map negated r.terms; degree = (coef_sum r.terms + 1) - r.degree }

-- the literal is at least 0, which is so everywhere
abbrev pub literal_row : Lit → PlainRow
literal_row l = record { terms = weighing 1 l ∷ []; degree = 0 }

-- ---- laws

-- the row holds exactly where the written inequality does
abbrev pub HoldsWhere : List Term → ℤ → PlainRow → Type 0
HoldsWhere terms at_least r = (p : Point) → IsTrue (holds p r) ↔ (at_least ≤ℤ value_at p terms)

-- the second row holds wherever the first does
abbrev pub HoldsAfter : PlainRow → PlainRow → Type 0
HoldsAfter before after = (p : Point) → holds p before ≡ true → holds p after ≡ true

-- the third row holds wherever the first two both do
abbrev pub HoldsWithBoth : PlainRow → PlainRow → PlainRow → Type 0
HoldsWithBoth a b sum = (p : Point) → holds p a ≡ true → holds p b ≡ true → holds p sum ≡ true

-- a sum holds exactly where the two values together reach the two degrees together
abbrev pub AddsValues : PlainRow → PlainRow → PlainRow → Type 0
AddsValues a b sum = (p : Point) → holds p sum ≡ nat_le (a.degree + b.degree) (true_sum p a.terms + true_sum p b.terms)

-- the row and its opposite never hold at one point, and one of them always does
abbrev pub HoldsElsewhere : PlainRow → PlainRow → Type 0
HoldsElsewhere r opposite = (p : Point) → holds p opposite ≡ not (holds p r)

-- ---- what fits

-- the coefficients sum to at most 2^120, and the degree is at most 2^120
pub record Fits (r : PlainRow) : Type 0 where
  pub sum : coef_sum r.terms ≤ 2 ^ 120
  pub degree : r.degree ≤ 2 ^ 120

-- what every row keeps: positive coefficients, rising variables, and that it fits
pub record IsWellFormedRow (r : PlainRow) : Type 0 where
  pub rising : IsRisingFrom 0 r.terms
  pub fits : Fits r

-- the coefficients sum to at most 2^60, and the degree is at most 2^60: the numbers of a row that propagation keeps as words
pub record IsShort (r : PlainRow) : Type 0 where
  pub sum : coef_sum r.terms ≤ 2 ^ 60
  pub degree : r.degree ≤ 2 ^ 60
