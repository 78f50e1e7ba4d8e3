-- Which rows stand in the sequence of clauses.
use Rattle.std.specs.Prelude.{◌≡◌, ℕ, true, List, ◌++◌}
use Rattle.std.specs.List.{AllByRecursion, Contains}
use Rattle.hrt_base.specs.declared.literal.Lit.{Lit}
use Rattle.hrt_base.specs.declared.literal.Term.{Term}
use Rattle.pb_rows.specs.Terms.{IsRisingFrom, PlainRow, opposite_lit, positive_part}
use Rattle.pb_rows.specs.Points.{IsCovered}
use Rattle.pb_rows.specs.Closure.{Literals, Propagates}
use Rattle.conflict_rows.specs.Trail.{Placed, on}
use Rattle.conflict_rows.specs.ClauseRows.{last_clause, resolve_along}

-- coefficients 1, and degree 1
pub record IsClause (c : PlainRow) : Type 0 where
  pub rising : IsRisingFrom 0 c.terms
  pub ones : AllByRecursion (λ (u : Term). positive_part u.coef ≡ 1) c.terms
  pub degree : c.degree ≡ 1

-- A clause whose literals are all false now, and were so when the literals of a set were there; its variables are from 1 to n.
pub record IsClauseRow (n : ℕ) (now before : Literals) (c : PlainRow) : Type 0 where
  pub clause : IsClause c
  pub false_now : AllByRecursion (λ (u : Term). now (opposite_lit u.lit) ≡ true) c.terms
  pub older : AllByRecursion (λ (u : Term). before (opposite_lit u.lit) ≡ true) c.terms
  pub over : AllByRecursion (λ (u : Term). IsCovered n u.lit.var) c.terms

-- the literal is that of a term which the row propagates under the set
pub record IsAsserted (set : Literals) (r : PlainRow) (l : Lit) : Type 0 where
  pub term : Term
  pub has : Contains r.terms term
  pub lit : term.lit ≡ l
  pub propagates : Propagates set r term

-- The sequence of clauses from a falsified row has come to this one, before the step of the newest literal of the rest.
pub record HasCome (n : ℕ) (whole rest : List Placed) (conflict row : PlainRow) : Type 0 where
  pub newer : List Placed
  pub is : newer ++ rest ≡ whole
  pub stands : IsClauseRow n (on whole) (on rest) row
  pub same : resolve_along whole rest row ≡ last_clause whole conflict
