-- Tables of values, and the true literals that go with them.
use Rattle.std.specs.Prelude.{◌≡◌, ◌+◌, ℕ, Bool, true, false, if◌then◌else◌, IsTrue, IsFalse, List, length, slice_index_or}
use Rattle.std.specs.List.{All, IsDistinct, count_by}
use Rattle.hrt_base.specs.declared.literal.Lit.{Lit}
use Rattle.hrt_base.specs.declared.literal.Value.{Value}
use Rattle.hrt_base.specs.declared.literal.Value.TheVariants.{False, Free, True}
use Rattle.pb_rows.specs.Terms.{opposite_lit}
use Rattle.pb_rows.specs.Points.{IsCovered}
use Rattle.pb_rows.specs.Closure.{among, is_same_lit, makes_true}

-- the value of a variable whose literal is true: false where that literal is the negated one
abbrev pub value_for : Bool → Value
value_for neg = if neg then False else True

-- the literal of the variable at a place
abbrev pub lit_at : ℕ → Bool → Lit
lit_at place neg = record { var = place + 1; neg = neg }

-- whether the value is neither true nor false
abbrev pub is_free : Value → Bool
is_free Free = true
is_free True = false
is_free False = false

-- the table makes true exactly what is listed, no literal is listed twice, and the variables that aren't free are as many as
-- the literals
pub record IsTable (values : List Value) (literals : List Lit) : Type 0 where
  pub table : (place : ℕ) (neg : Bool) → makes_true (slice_index_or values place Free) neg ≡ among literals (lit_at place neg)
  pub covered : All (λ l. IsCovered (length values) l.var) literals
  pub distinct : IsDistinct is_same_lit literals
  pub count : length literals + count_by is_free values ≡ length values

-- never both literals of a variable, and none twice
pub record AreConsistent (literals : List Lit) : Type 0 where
  pub consistent : (l : Lit) → IsTrue (among literals l) → IsFalse (among literals (opposite_lit l))
  pub distinct : IsDistinct is_same_lit literals
