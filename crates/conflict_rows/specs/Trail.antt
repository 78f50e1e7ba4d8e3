-- Trails: the literals that are true, newest first, each with its level and the row that made it true, if one did.
use Rattle.std.specs.Prelude.{◌≡◌, ◌<◌, ◌+◌, ◌==◌, ℕ, Bool, nat_le, nat_lt, not, ◌&&◌, ◌||◌, if◌then◌else◌, IsFalse, List, [], ◌∷◌, map, filter, Option, Some, None}
use Rattle.std.specs.List.{list_any}
use Rattle.hrt_base.specs.declared.literal.Lit.{Lit}
use Rattle.hrt_base.specs.declared.literal.Term.{Term}
use Rattle.pb_rows.specs.Terms.{PlainRow, opposite_lit, positive_part}
use Rattle.pb_rows.specs.Rows.{IsWellFormedRow}
use Rattle.pb_rows.specs.Closure.{Literals, among, is_same_lit, nonfalse_sum}

-- A literal on the trail. It was decided where no row made it true.
pub record Placed : Type 0 where
  pub lit : Lit
  pub level : ℕ
  pub reason : Option PlainRow

-- the set of the literals on the trail
abbrev pub on : List Placed → Literals
on trail = among (map (λ e. e.lit) trail)

-- the trail up to a level
abbrev pub up_to : ℕ → List Placed → List Placed
up_to level trail = filter (λ e. nat_le e.level level) trail

-- the trail's literals of a level
abbrev pub at_level : ℕ → List Placed → List Placed
at_level level trail = filter (λ e. e.level == level) trail

-- the level of the newest literal, 0 where there is none
abbrev pub top_level : List Placed → ℕ
top_level [] = 0
top_level (e ∷ es) = e.level

-- ---- literals of terms

-- the coefficient, where it isn't negative, of a literal, or 0
abbrev pub weight_of : Lit → List Term → ℕ
weight_of l [] = 0
weight_of l (t ∷ ts) = (if is_same_lit l t.lit then positive_part t.coef else 0) + weight_of l ts

-- whether the literal has a positive coefficient
abbrev pub has : Lit → List Term → Bool
has l ts = nat_lt 0 (weight_of l ts)

-- the literal is free, stands in the row, and its coefficient exceeds the slack, which may be below 0
pub record PropagatesLiteral (set : Literals) (r : PlainRow) (l : Lit) : Type 0 where
  pub untrue : IsFalse (set l)
  pub unfalse : IsFalse (set (opposite_lit l))
  pub stands : 0 < weight_of l r.terms
  pub exceeds : nonfalse_sum set r.terms < r.degree + weight_of l r.terms

-- ---- open rows

-- whether a term's literal is free, and its coefficient exceeds the slack
abbrev pub propagates_term : Literals → PlainRow → Term → Bool
propagates_term set r t = (not (set t.lit) && not (set (opposite_lit t.lit))) && nat_lt (nonfalse_sum set r.terms) (r.degree + positive_part t.coef)

-- whether the row propagates a literal
abbrev pub propagates_some : Literals → PlainRow → Bool
propagates_some set r = list_any (propagates_term set r) r.terms

-- whether the row is falsified, or propagates a literal
abbrev pub is_open : Literals → PlainRow → Bool
is_open set r = nat_lt (nonfalse_sum set r.terms) r.degree || propagates_some set r

-- ---- what every trail keeps

-- the row made the literal true, at the level of what is before it
pub record IsReason (before : List Placed) (l : Lit) (level : ℕ) (r : PlainRow) : Type 0 where
  pub level_is : level ≡ top_level before
  pub normal : IsWellFormedRow r
  pub propagates : PropagatesLiteral (on before) r l

-- a literal that a row made true has the level of what is before it, and a decided one opens the next level
abbrev pub IsGrounded : List Placed → Lit → ℕ → Option PlainRow → Type 0
IsGrounded before l level None = level ≡ top_level before + 1
IsGrounded before l level (Some r) = IsReason before l level r

-- the literal came when it was free
pub record IsPlaced (before : List Placed) (e : Placed) : Type 0 where
  pub untrue : IsFalse (on before e.lit)
  pub unfalse : IsFalse (on before (opposite_lit e.lit))
  pub grounded : IsGrounded before e.lit e.level e.reason

-- each literal came when it was free, by a decision or a row
abbrev pub IsTrail : List Placed → Type 0
IsTrail [] = Unit {0}
IsTrail (e ∷ es) = IsPlaced es e × IsTrail es
