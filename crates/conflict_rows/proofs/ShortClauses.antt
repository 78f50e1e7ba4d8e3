-- Clauses of rows are short, and so are the numbers of their lines.
use Rattle.std.proofs.Common.{◌≡◌, ◌≤◌, ◌<◌, ◌+◌, ◌-◌, ◌^◌, ℕ, Bool, true, false, List, [], ◌∷◌, filter, map, length, refl, sym, subst, inl, inr, arith}
use Rattle.std.proofs.lemmas.Bool.{cases_Bool}
use Rattle.std.specs.List.{All, AllByRecursion}
use Rattle.hrt_base.specs.declared.literal.Lit.{Lit}
use Rattle.hrt_base.specs.declared.literal.Term.{Term}
use Rattle.pb_rows.specs.Terms.{IsRisingFrom, PlainRow, coef_sum}
use Rattle.pb_rows.specs.Points.{IsCovered}
use Rattle.pb_rows.specs.Rows.{Fits, IsShort, IsWellFormedRow, add}
use Rattle.pb_rows.specs.Closure.{Literals}
use Rattle.pb_rows.proofs.Forms.{fits_sum}
use Rattle.conflict_rows.specs.Trail.{PropagatesLiteral}
use Rattle.conflict_rows.specs.ClauseRows.{as_clause, is_other}
use Rattle.conflict_rows.specs.Weakening.{vars_where, weakened}
use Rattle.conflict_rows.specs.Standing.{IsClause, IsClauseRow}
use Rattle.conflict_rows.proofs.Nets.{Lits}
use Rattle.conflict_rows.proofs.Weakened.{others, others_rising, weakened_is, weight_where}
use Rattle.conflict_rows.proofs.ClauseStep.{clause_normal, clause_of_ones, clause_of_weakened, clause_sum_within, from_one, ones, ones_lits, other_sum, others_lits, rising_length}

abbrev row_of_ones : List Term → PlainRow
row_of_ones ts = record { terms = ones ts; degree = 1 }

-- a clause over the variables is short
pub clause_short : (n : ℕ) (c : PlainRow) → n < 2 ^ 32 → IsClause c → Lits (λ l. IsCovered n l.var) c.terms → IsShort c
clause_short n c small k h = record { sum = omega (arith, clause_sum_within n c k h); degree = omega (arith, k.degree) }

-- so is the clause of a reason
module _ (n : ℕ) (small : n < 2 ^ 32) (before : Literals) (t : Lit) (r : PlainRow) (normal : IsWellFormedRow r) (over : Lits (λ l. IsCovered n l.var) r.terms) (p : PropagatesLiteral before r t) where
  made_is : as_clause (weakened (is_other before t) r) ≡ row_of_ones (others (is_other before t) r.terms)
  made_is = clause_of_weakened (is_other before t) r normal (other_sum before t r p)

  made_clause : IsClause (row_of_ones (others (is_other before t) r.terms))
  made_clause = clause_of_ones (others (is_other before t) r.terms) (others_rising (is_other before t) 0 r.terms normal.rising)

  made_over : Lits (λ l. IsCovered n l.var) (ones (others (is_other before t) r.terms))
  made_over = ones_lits (λ l. IsCovered n l.var) (others (is_other before t) r.terms) (others_lits (λ l. IsCovered n l.var) (is_other before t) r.terms over)

  pub reason_short : IsShort (as_clause (weakened (is_other before t) r))
  reason_short = subst IsShort (sym made_is) (clause_short n (row_of_ones (others (is_other before t) r.terms)) small made_clause made_over)

  pub reason_normal : IsWellFormedRow (as_clause (weakened (is_other before t) r))
  reason_normal = subst IsWellFormedRow (sym made_is) (clause_normal n (row_of_ones (others (is_other before t) r.terms)) made_clause made_over small)

-- two short rows have a sum that fits
pub short_sum_fits : (c d : PlainRow) → IsWellFormedRow c → IsWellFormedRow d → IsShort c → IsShort d → Fits (add c d)
short_sum_fits c d n m v w = fits_sum c d n m (omega (arith, v.sum, w.sum), omega (arith, v.degree, w.degree))

-- ---- the numbers of a line

-- a row has at most as many terms as there are variables
pub terms_few : (n : ℕ) (ts : List Term) → IsRisingFrom 0 ts → Lits (λ l. IsCovered n l.var) ts → length ts ≤ n
terms_few n ts r h = let k = rising_length 1 n ts (from_one n ts r h) h (omega arith) in omega (arith, k)

vars_fewer : (p : Term → Bool) (ts : List Term) → length (vars_where p ts) ≤ length ts
vars_fewer p [] = omega arith
vars_fewer p (t ∷ ts) = elim (cases_Bool (p t)) [ inl y ↦ rw y (omega (arith, vars_fewer p ts)) | inr y ↦ rw y (omega (arith, vars_fewer p ts)) ]

pub vars_few : (n : ℕ) (p : Term → Bool) (ts : List Term) → IsRisingFrom 0 ts → Lits (λ l. IsCovered n l.var) ts → length (vars_where p ts) ≤ n
vars_few n p ts r h = let a = terms_few n ts r h in omega (arith, vars_fewer p ts, a)

-- the variables that go are variables
pub vars_covered : (n : ℕ) (p : Term → Bool) (ts : List Term) → Lits (λ l. IsCovered n l.var) ts → AllByRecursion (IsCovered n) (vars_where p ts)
vars_covered n p [] h = tt
vars_covered n p (t ∷ ts) h = elim (cases_Bool (p t)) [ inl y ↦ rw y (h.0, vars_covered n p ts h.1) | inr y ↦ rw y (vars_covered n p ts h.1) ]

-- what is left of a degree isn't more than it
pub degree_left : (p : Term → Bool) (r : PlainRow) → IsRisingFrom 0 r.terms → (weakened p r).degree ≤ r.degree
degree_left p r n = subst (λ (q : PlainRow). q.degree ≤ r.degree) (sym (weakened_is p r n)) (omega arith)
