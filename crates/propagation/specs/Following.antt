-- What follows from rows, and what one row makes of a set of literals.
use Rattle.std.specs.Prelude.{◌≡◌, ◌<◌, ◌+◌, ◌++◌, ℕ, IsTrue, IsFalse, List}
use Rattle.std.specs.List.{All}
use Rattle.hrt_base.specs.declared.literal.Lit.{Lit}
use Rattle.hrt_base.specs.declared.literal.Term.{Term}
use Rattle.pb_rows.specs.Terms.{PlainRow, opposite_lit, positive_part}
use Rattle.pb_rows.specs.Points.{IsCovered}
use Rattle.pb_rows.specs.Closure.{IsQuiet, Literals}

-- the row's variables are from 1 to vars
abbrev pub IsOver : ℕ → PlainRow → Type 0
IsOver vars r = All (λ t. IsCovered vars t.lit.var) r.terms

-- every quiet set holds the set
pub record Follows (rows : List PlainRow) (given set : Literals) : Type 0 where
  pub holds : (other : Literals) → IsQuiet rows given other → (l : Lit) → IsTrue (set l) → IsTrue (other l)

-- the literals have only been added to
pub record Grows (old new : List Lit) : Type 0 where
  pub more : List Lit
  pub is : new ≡ old ++ more

-- ---- a row whose literals that aren't false weigh at most a sum

-- the term's literal is free, and its coefficient exceeds what the sum leaves
pub record IsOpenTerm (set : Literals) (sum degree : ℕ) (t : Term) : Type 0 where
  pub untrue : IsFalse (set t.lit)
  pub unfalse : IsFalse (set (opposite_lit t.lit))
  pub exceeds : sum < degree + positive_part t.coef

-- the term's literal is true, unless it is false or its coefficient is at most what the sum leaves
abbrev pub IsSettledAt : Literals → ℕ → ℕ → Term → Type 0
IsSettledAt set sum degree t = IsFalse (set (opposite_lit t.lit)) → sum < degree + positive_part t.coef → IsTrue (set t.lit)
