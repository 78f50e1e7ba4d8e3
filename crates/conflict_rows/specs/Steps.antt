-- What the code of one step comes to.
use Rattle.std.specs.Prelude.{◌≡◌, ℕ, Bool, Some, None, List}
use Rattle.hrt_base.specs.declared.literal.Lit.{Lit}
use Rattle.hrt_base.specs.declared.literal.Term.{Term}
use Rattle.pb_rows.specs.Terms.{PlainRow, opposite_lit}
use Rattle.pb_rows.specs.Rows.{add, divide, times}
use Rattle.pb_rows.specs.Closure.{Literals}
use Rattle.conflict_rows.specs.Trail.{weight_of}
use Rattle.conflict_rows.specs.Weakening.{vars_where, weakened}
use Rattle.conflict_rows.specs.CutRows.{is_weakened, passed_by}
use Rattle.conflict_rows.specs.ClauseRows.{as_clause}

-- ---- cuts

-- the reason, weakened and divided
abbrev pub reduced_by : Literals → Literals → Lit → PlainRow → PlainRow
reduced_by now before t r = divide (weight_of t r.terms) (weakened (is_weakened now before t (weight_of t r.terms)) r)

-- the product that is added to the row
abbrev pub multiple_by : Literals → Literals → Lit → PlainRow → PlainRow → PlainRow
multiple_by now before t r row = times (weight_of (opposite_lit t) row.terms) (reduced_by now before t r)

-- a reduced reason, and the variables by which it was weakened
pub record IsReduced (now before : Literals) (t : Lit) (r reduced : PlainRow) (names : List ℕ) : Type 0 where
  pub row : reduced ≡ reduced_by now before t r
  pub vars : names ≡ vars_where (is_weakened now before t (weight_of t r.terms)) r.terms

-- the next row, with the numbers of its line, where none passes the most
pub record IsNext (now before : Literals) (t : Lit) (r c next : PlainRow) (names : List ℕ) (divisor factor : ℕ) : Type 0 where
  pub within : passed_by (multiple_by now before t r c) (add c (multiple_by now before t r c)) ≡ None
  pub row : next ≡ add c (multiple_by now before t r c)
  pub vars : names ≡ vars_where (is_weakened now before t (weight_of t r.terms)) r.terms
  pub divisor_is : divisor ≡ weight_of t r.terms
  pub factor_is : factor ≡ weight_of (opposite_lit t) c.terms

-- the first number that passes the most
abbrev pub IsPassed : Literals → Literals → Lit → PlainRow → PlainRow → ℕ → Type 0
IsPassed now before t r c number = passed_by (multiple_by now before t r c) (add c (multiple_by now before t r c)) ≡ Some number

-- ---- clauses

-- the clause of a row without the terms that pass, and the numbers of its line: the variables that go, and the degree that divides
pub record IsClauseOf (goes : Term → Bool) (r clause : PlainRow) (names : List ℕ) (divisor : ℕ) : Type 0 where
  pub row : clause ≡ as_clause (weakened goes r)
  pub vars : names ≡ vars_where goes r.terms
  pub divisor_is : divisor ≡ (weakened goes r).degree
