-- One step of the clauses: the next row is a clause too, and each of its literals became false earlier.
use Rattle.std.proofs.Common.{◌≡◌, ◌⊎◌, ◌≤◌, ◌<◌, ◌+◌, ◌-◌, ◌*◌, ◌^◌, ℕ, zero, suc, ◌+ℤ◌, Bool, true, false, not, min, ◌==◌, List, [], ◌∷◌, map, length, refl, sym, ◌∙◌, ap, ap₂, subst, inl, inr, arith}
use Rattle.std.specs.Int.{div_ceil}
use Rattle.std.proofs.lemmas.Bool.{and_parts, cases_Bool, ne_eqb, eq-eqb, not-false, not-true, or_cases}
use Rattle.std.proofs.lemmas.Grind.{div_ceil_times}
use Rattle.std.proofs.Math.Nat.{mul-le-mul_right}
use Rattle.hrt_base.specs.declared.literal.Lit.{Lit}
use Rattle.hrt_base.specs.declared.literal.Term.{Term}
use Rattle.pb_rows.specs.Terms.{IsRisingFrom, PlainRow, capped, coef_sum, divided, opposite_lit, weighing, positive_part}
use Rattle.pb_rows.specs.Points.{IsCovered, Point, is_true_at, true_sum}
use Rattle.pb_rows.specs.Rows.{Fits, IsWellFormedRow, add, divide, saturate}
use Rattle.pb_rows.specs.Joined.{lost_all, put_all}
use Rattle.pb_rows.specs.Closure.{Literals, is_same_lit, nonfalse_sum}
use Rattle.pb_rows.proofs.Changes.{row_of, saturate_is}
use Rattle.pb_rows.proofs.Forms.{merged_is, merged_normal, put_all_sum_is}
use Rattle.pb_rows.proofs.Values.{put_all_value}
use Rattle.propagation.proofs.Sets.{lit_cases, lit_is}
use Rattle.conflict_rows.specs.Trail.{PropagatesLiteral, weight_of}
use Rattle.conflict_rows.specs.Weakening.{weakened}
use Rattle.conflict_rows.specs.ClauseRows.{as_clause, is_nonfalse, is_other}
use Rattle.conflict_rows.specs.Standing.{IsClause, IsClauseRow}
use Rattle.conflict_rows.proofs.Literals.{Each, IsOnly, each, each_of, each₂, only_term, rising_weights, weight_below, weight_here, weight_there}
use Rattle.conflict_rows.proofs.OpenSums.{IsConsistent}
use Rattle.conflict_rows.proofs.Weakened.{others, others_each, others_open, others_rising, others_sum, others_weight, weakened_is, weight_where}
use Rattle.conflict_rows.proofs.Nets.{Lits, add_lits, gone, net-add, net-literal}
use Rattle.conflict_rows.proofs.CutStep.{IsStep, by_itself, opposite_signed, with_lit}

-- ---- a row as a clause

-- each coefficient is 1
abbrev pub ones : List Term → List Term
ones ts = map (λ t. weighing 1 t.lit) ts

one_div : (w d : ℕ) → 0 < w → 0 < d → div_ceil (min w d) d ≡ 1
one_div w d p q = by (div_ceil (min w d) d) (div_ceil_times (min w d) d q)
  where
    by : (k : ℕ) → (min w d ≤ k * d) × (k * d < min w d + d) → k ≡ 1
    by zero h = absurd (omega arith)
    by (suc zero) h = refl
    by (suc (suc k)) h = let m : 2 * d ≤ suc (suc k) * d = mul-le-mul_right d (omega arith) in absurd (omega arith)

divided_ones : (d : ℕ) (ts : List Term) → 0 < d → Each (λ t. 0 < positive_part t.coef) ts → map (divided d) (map (capped d) ts) ≡ ones ts
divided_ones d [] p h = refl
divided_ones d (t ∷ ts) p h = ap₂ (λ (u : Term) (us : List Term). u ∷ us) (ap (λ (n : ℕ). weighing n t.lit) (one_div (positive_part t.coef) d h.0 p)) (divided_ones d ts p h.1)

pub clause_is : (ts : List Term) (d : ℕ) → 0 < d → IsWellFormedRow (row_of ts d) → as_clause (row_of ts d) ≡ row_of (ones ts) 1
clause_is ts d p n =
    ap (λ (r : PlainRow). divide d r) (sym (saturate_is ts d p n))
    ∙ ap₂ row_of (divided_ones d ts p (rising_weights 0 ts n.rising)) (by_itself d p)

-- ---- what a clause is

ones_rising : (low : ℕ) (ts : List Term) → IsRisingFrom low ts → IsRisingFrom low (ones ts)
ones_rising low [] r = tt
ones_rising low (t ∷ ts) r = (r.0, omega arith, ones_rising (t.lit.var + 1) ts r.2)

ones_each : (ts : List Term) → Each (λ u. positive_part u.coef ≡ 1) (ones ts)
ones_each [] = tt
ones_each (t ∷ ts) = (refl, ones_each ts)

pub ones_lits : (Q : Lit → Type 0) (ts : List Term) → Lits Q ts → Lits Q (ones ts)
ones_lits Q [] h = tt
ones_lits Q (t ∷ ts) h = (h.0, ones_lits Q ts h.1)

ones_weight : (l : Lit) (low : ℕ) (ts : List Term) → IsRisingFrom low ts → 0 < weight_of l ts → 0 < weight_of l (ones ts)
ones_weight l low [] r h = absurd (omega arith)
ones_weight l low (t ∷ ts) r h = elim (lit_cases l t.lit) [
  | inl e ↦ omega (arith, weight_here l (weighing 1 t.lit) (ones ts) e)
  | inr e ↦ omega (arith, weight_there l (weighing 1 t.lit) (ones ts) e, ones_weight l (t.lit.var + 1) ts r.2 (omega (arith, weight_there l t ts e)))
]

pub clause_of_ones : (ts : List Term) → IsRisingFrom 0 ts → IsClause (row_of (ones ts) 1)
clause_of_ones ts r = record { rising = ones_rising 0 ts r; ones = ones_each ts; degree = refl }

clause_sum : (ts : List Term) → Each (λ u. positive_part u.coef ≡ 1) ts → coef_sum ts ≡ length ts
clause_sum [] h = refl
clause_sum (t ∷ ts) h = omega (arith, h.0, clause_sum ts h.1)

-- rising variables from 1 to n are at most n
pub rising_length : (low n : ℕ) (ts : List Term) → IsRisingFrom low ts → Lits (λ l. IsCovered n l.var) ts → low ≤ n + 1 → low + length ts ≤ n + 1
rising_length low n [] r h k = omega arith
rising_length low n (t ∷ ts) r h k = let m = rising_length (t.lit.var + 1) n ts r.2 h.1 (omega (arith, h.0.last)) in omega (arith, r.0)

pub from_one : (n : ℕ) (ts : List Term) → IsRisingFrom 0 ts → Lits (λ l. IsCovered n l.var) ts → IsRisingFrom 1 ts
from_one n [] r h = tt
from_one n (t ∷ ts) r h = (h.0.first, r.1, r.2)

pub clause_sum_within : (n : ℕ) (c : PlainRow) → IsClause c → Lits (λ l. IsCovered n l.var) c.terms → coef_sum c.terms ≤ n
clause_sum_within n c k h = omega (arith, clause_sum c.terms k.ones, rising_length 1 n c.terms (from_one n c.terms k.rising h) h (omega arith))

pub clause_normal : (n : ℕ) (c : PlainRow) → IsClause c → Lits (λ l. IsCovered n l.var) c.terms → n < 2 ^ 32 → IsWellFormedRow c
clause_normal n c k h small = record {
  rising = k.rising;
  fits = record { sum = omega (arith, clause_sum_within n c k h); degree = omega (arith, k.degree) };
}

-- ---- the clause of the falsified row

where_open : (set : Literals) (ts : List Term) → weight_where (is_nonfalse set) ts ≡ nonfalse_sum set ts
where_open set [] = refl
where_open set (t ∷ ts) = elim (cases_Bool (set (opposite_lit t.lit))) [ inl e ↦ rw e (omega (arith, where_open set ts)) | inr e ↦ rw e (omega (arith, where_open set ts)) ]

normal_others : (p : Term → Bool) (r : PlainRow) (d : ℕ) → IsWellFormedRow r → d ≤ r.degree → IsWellFormedRow (row_of (others p r.terms) d)
normal_others p r d n h = record {
  rising = others_rising p 0 r.terms n.rising;
  fits = record { sum = omega (arith, others_sum p r.terms, n.fits.sum); degree = omega (arith, n.fits.degree) };
}

pub clause_of_weakened : (p : Term → Bool) (r : PlainRow) → IsWellFormedRow r → weight_where p r.terms < r.degree → as_clause (weakened p r) ≡ row_of (ones (others p r.terms)) 1
clause_of_weakened p r n h =
    ap as_clause (weakened_is p r n.rising)
    ∙ clause_is (others p r.terms) (r.degree - weight_where p r.terms) (omega arith) (normal_others p r (r.degree - weight_where p r.terms) n (omega arith))

-- what is left of a falsified row, and of a reason, has a degree above 0
pub conflict_left : (set : Literals) (r : PlainRow) → IsRisingFrom 0 r.terms → nonfalse_sum set r.terms < r.degree → 0 < (weakened (is_nonfalse set) r).degree
conflict_left set r n h = subst (λ (q : PlainRow). 0 < q.degree) (sym (weakened_is (is_nonfalse set) r n)) (omega (arith, where_open set r.terms))

pub conflict_is : (set : Literals) (r : PlainRow) → IsWellFormedRow r → nonfalse_sum set r.terms < r.degree → as_clause (weakened (is_nonfalse set) r) ≡ row_of (ones (others (is_nonfalse set) r.terms)) 1
conflict_is set r n h = clause_of_weakened (is_nonfalse set) r n (omega (arith, where_open set r.terms))

pub conflict_false : (set : Literals) (ts : List Term) → Lits (λ l. set (opposite_lit l) ≡ true) (ones (others (is_nonfalse set) ts))
conflict_false set ts = ones_lits (λ l. set (opposite_lit l) ≡ true) (others (is_nonfalse set) ts)
    (each (λ u. Unit {0} × (is_nonfalse set u ≡ false)) (λ u. set (opposite_lit u.lit) ≡ true) (λ u h. not-false _ h.1) (others (is_nonfalse set) ts)
    (others_each (is_nonfalse set) (λ u. Unit {0}) ts (each_of (λ u. Unit {0}) (λ u. tt) ts)))

pub others_lits : (Q : Lit → Type 0) (p : Term → Bool) (ts : List Term) → Lits Q ts → Lits Q (others p ts)
others_lits Q p ts h = each (λ u. Q u.lit × (p u ≡ false)) (λ u. Q u.lit) (λ u k. k.0) (others p ts) (others_each p (λ u. Q u.lit) ts h)

-- ---- the clause of a reason

open_has : (set : Literals) (l : Lit) (ts : List Term) → set (opposite_lit l) ≡ false → weight_of l ts ≤ nonfalse_sum set ts
open_has set l [] h = omega arith
open_has set l (t ∷ ts) h = elim (lit_cases l t.lit) [
  | inl e ↦
      let same : set (opposite_lit t.lit) ≡ false = subst (λ (k : Lit). set (opposite_lit k) ≡ false) e h in
      rw same (omega (arith, weight_here l t ts e, open_has set l ts h))
  | inr e ↦ omega (arith, weight_there l t ts e, open_has set l ts h)
]

keeps_t : (before : Literals) (t : Lit) (ts : List Term) → Each (λ u. t ≡ u.lit → is_other before t u ≡ false) ts
keeps_t before t ts = each_of (λ u. t ≡ u.lit → is_other before t u ≡ false) (λ u e. let same : (u.lit.var == t.var) ≡ true = eq-eqb u.lit.var t.var (ap (λ (k : Lit). k.var) (sym e)) in rw same refl) ts

-- what goes weighs less than the degree
pub other_sum : (before : Literals) (t : Lit) (r : PlainRow) → PropagatesLiteral before r t → weight_where (is_other before t) r.terms < r.degree
other_sum before t r m =
    let p : Term → Bool = is_other before t in
    omega (
      arith,
      others_open p before r.terms (each_of (λ u. p u ≡ true → before (opposite_lit u.lit) ≡ false) (λ u g. not-true _ (and_parts _ _ g).1) r.terms),
      open_has before t (others p r.terms) m.unfalse,
      others_weight p t r.terms (keeps_t before t r.terms),
      m.exceeds,
    )

pub reason_left : (before : Literals) (t : Lit) (r : PlainRow) → IsRisingFrom 0 r.terms → PropagatesLiteral before r t → 0 < (weakened (is_other before t) r).degree
reason_left before t r n m = subst (λ (q : PlainRow). 0 < q.degree) (sym (weakened_is (is_other before t) r n)) (omega (arith, other_sum before t r m))

module _ (now before : Literals) (t : Lit) (r : PlainRow) (s : IsStep now before t r) where
  pub reason_is : as_clause (weakened (is_other before t) r) ≡ row_of (ones (others (is_other before t) r.terms)) 1
  reason_is = clause_of_weakened (is_other before t) r s.normal (other_sum before t r s.propagates)

  -- a literal of it is t, or was false before t
  pub reason_lits : Lits (λ l. (l ≡ t) ⊎ (before (opposite_lit l) ≡ true)) (ones (others (is_other before t) r.terms))
  reason_lits = ones_lits (λ l. (l ≡ t) ⊎ (before (opposite_lit l) ≡ true)) (others (is_other before t) r.terms)
      (each (λ u. IsOnly t (weight_of t r.terms) u × (is_other before t u ≡ false)) (λ u. (u.lit ≡ t) ⊎ (before (opposite_lit u.lit) ≡ true)) (λ u h. by u h.0 h.1) (others (is_other before t) r.terms)
      (others_each (is_other before t) (IsOnly t (weight_of t r.terms)) r.terms (only_term t 0 r.terms s.normal.rising s.propagates.stands)))
    where
      by : (u : Term) → IsOnly t (weight_of t r.terms) u → is_other before t u ≡ false → (u.lit ≡ t) ⊎ (before (opposite_lit u.lit) ≡ true)
      by u (inr h) g = inl h.0
      by u (inl h) g =
          let other : (u.lit.var == t.var) ≡ false = ne_eqb u.lit.var t.var h in
          let k : not (before (opposite_lit u.lit)) ≡ false = rw other at g in
          inr (not-false _ k)

  pub reason_rising : IsRisingFrom 0 (others (is_other before t) r.terms)
  reason_rising = others_rising (is_other before t) 0 r.terms s.normal.rising

  pub reason_stands : 0 < weight_of t (ones (others (is_other before t) r.terms))
  reason_stands = ones_weight t 0 (others (is_other before t) r.terms) reason_rising (omega (arith, others_weight (is_other before t) t r.terms (keeps_t before t r.terms), s.propagates.stands))

-- ---- the point at which exactly the literals of a set are true

abbrev lit_of : ℕ → Bool → Lit
lit_of v n = record { var = v; neg = n }

point : Literals → Point
point set v = set (lit_of v false)

true_at : (set : Literals) → IsConsistent set → (v : ℕ) (n : Bool) → set (lit_of v n) ≡ true → is_true_at (point set) (lit_of v n) ≡ true
unfolding point
true_at set c v false h = h
true_at set c v true h = ap not (c (lit_of v true) h)

false_at : (set : Literals) → IsConsistent set → (v : ℕ) (n : Bool) → set (opposite_lit (lit_of v n)) ≡ true → is_true_at (point set) (lit_of v n) ≡ false
unfolding point
false_at set c v false h = c (lit_of v true) h
false_at set c v true h = ap not h

sum_false : (p : Point) (ts : List Term) → Each (λ u. is_true_at p u.lit ≡ false) ts → true_sum p ts ≡ 0
sum_false p [] h = refl
sum_false p (t ∷ ts) h = rw h.0 (omega (arith, sum_false p ts h.1))

sum_one : (p : Point) (l : Lit) (ts : List Term) → is_true_at p l ≡ true → Each (λ u. (u.lit ≡ l) ⊎ (is_true_at p u.lit ≡ false)) ts → true_sum p ts ≡ weight_of l ts
sum_one p l [] t h = refl
sum_one p l (u ∷ us) t h = elim h.0 [
  | inl e ↦
      let here : is_true_at p u.lit ≡ true = subst (λ (k : Lit). is_true_at p k ≡ true) (sym e) t in
      rw here (omega (arith, weight_here l u us (sym e), sum_one p l us t h.1))
  | inr f ↦ elim (lit_cases l u.lit) [
    | inl e ↦ (let here : is_true_at p u.lit ≡ true = subst (λ (k : Lit). is_true_at p k ≡ true) e t in absurd (cc))
    | inr e ↦ rw f (omega (arith, weight_there l u us e, sum_one p l us t h.1))
  ]
]

-- ---- the next clause

pub weight_one : (l : Lit) (low : ℕ) (ts : List Term) → IsRisingFrom low ts → Each (λ u. positive_part u.coef ≡ 1) ts → 0 < weight_of l ts → weight_of l ts ≡ 1
weight_one l low [] r o h = absurd (omega arith)
weight_one l low (t ∷ ts) r o h = elim (lit_cases l t.lit) [
  | inl e ↦
      let v : l.var ≡ t.lit.var = ap (λ (k : Lit). k.var) e in
      omega (arith, weight_here l t ts e, weight_below l (t.lit.var + 1) ts r.2 (omega arith), o.0)
  | inr e ↦ weight_there l t ts e ∙ weight_one l (t.lit.var + 1) ts r.2 o.1 (omega (arith, weight_there l t ts e))
]

capped_ones : (ts : List Term) → Each (λ t. 0 < positive_part t.coef) ts → map (capped 1) ts ≡ ones ts
capped_ones [] h = refl
capped_ones (t ∷ ts) h = ap₂ (λ (u : Term) (us : List Term). u ∷ us) (ap (λ (n : ℕ). weighing n t.lit) (omega (arith, h.0))) (capped_ones ts h.1)

module _ (n : ℕ) (small : n < 2 ^ 32) (now before : Literals) (t : Lit) (r c : PlainRow) (s : IsStep now before t r) (over : Lits (λ l. IsCovered n l.var) r.terms)
    (row : IsClauseRow n now (with_lit t before) c) (stands : 0 < weight_of (opposite_lit t) c.terms) where
  terms_of : List Term
  terms_of = ones (others (is_other before t) r.terms)

  reason : PlainRow
  reason = row_of terms_of 1

  reason_clause : IsClause reason
  unfolding reason terms_of
  reason_clause = clause_of_ones (others (is_other before t) r.terms) (reason_rising now before t r s)

  reason_over : Lits (λ l. IsCovered n l.var) reason.terms
  unfolding reason terms_of
  reason_over = ones_lits (λ l. IsCovered n l.var) (others (is_other before t) r.terms) (others_lits (λ l. IsCovered n l.var) (is_other before t) r.terms over)

  row_normal : IsWellFormedRow c
  row_normal = clause_normal n c row.clause row.over small

  reason_normal : IsWellFormedRow reason
  reason_normal = clause_normal n reason reason_clause reason_over small

  -- its literals are t, and others that were false before t
  reason_parts : Lits (λ l. (l ≡ t) ⊎ (before (opposite_lit l) ≡ true)) reason.terms
  unfolding reason terms_of
  reason_parts = reason_lits now before t r s

  weight_in_row : weight_of (opposite_lit t) c.terms ≡ 1
  weight_in_row = weight_one (opposite_lit t) 0 c.terms row.clause.rising row.clause.ones stands

  stands_there : 0 < weight_of t reason.terms
  unfolding reason terms_of
  stands_there = reason_stands now before t r s

  weight_in_reason : weight_of t reason.terms ≡ 1
  weight_in_reason = weight_one t 0 reason.terms reason_clause.rising reason_clause.ones stands_there

  joined : List Term
  joined = put_all c.terms reason.terms

  sum_is : add c reason ≡ row_of joined ((c.degree + reason.degree) - lost_all c.terms reason.terms)
  unfolding joined
  sum_is = sym (merged_is c reason row_normal reason_normal)

  small_sum : coef_sum joined ≤ 2 ^ 33 + 2
  unfolding joined
  small_sum = omega (arith, put_all_sum_is c.terms reason.terms, clause_sum_within n c row.clause row.over, clause_sum_within n reason reason_clause reason_over)

  fits : Fits (add c reason)
  fits = subst Fits (sym sum_is) (record { sum = omega (arith, small_sum); degree = omega (arith, row.clause.degree, reason_clause.degree) })

  joined_normal : IsWellFormedRow (row_of joined ((c.degree + reason.degree) - lost_all c.terms reason.terms))
  unfolding joined
  joined_normal = merged_normal c reason row_normal reason_normal fits

  -- t's variable is gone
  gone_there : Each (λ u. u.lit.var ≡ t.var → ⊥) joined
  gone_there = subst (λ (q : PlainRow). Each (λ u. u.lit.var ≡ t.var → ⊥) q.terms) sum_is
      (gone t.var 0 (add c reason).terms (subst (λ (q : PlainRow). IsRisingFrom 0 q.terms) (sym sum_is) joined_normal.rising)
      (net-add t.var c reason
      ∙ ap₂ ◌+ℤ◌ (net-literal (opposite_lit t) 0 c.terms row.clause.rising stands) (net-literal t 0 reason.terms reason_clause.rising stands_there)
      ∙ opposite_signed t (weight_of (opposite_lit t) c.terms) (weight_of t reason.terms) (weight_in_row ∙ sym weight_in_reason)))

  Old : Lit → Type 0
  Old l = (l.var ≡ t.var) ⊎ ((now (opposite_lit l) ≡ true) × (before (opposite_lit l) ≡ true))

  old_of : (l : Lit) → now (opposite_lit l) ≡ true → with_lit t before (opposite_lit l) ≡ true → Old l
  unfolding Old
  old_of l h k = elim (or_cases (is_same_lit (opposite_lit l) t) (before (opposite_lit l)) k) [
    | inl e ↦ inl (ap (λ (j : Lit). j.var) (lit_is (opposite_lit l) t e))
    | inr e ↦ inr (h, e)
  ]

  old_there : Lits Old joined
  unfolding Old
  old_there = subst (λ (q : PlainRow). Lits Old q.terms) sum_is
      (add_lits Old c reason row_normal reason_normal
      (each₂ (λ u. now (opposite_lit u.lit) ≡ true) (λ u. with_lit t before (opposite_lit u.lit) ≡ true) (λ u. Old u.lit) (λ u h k. old_of u.lit h k) c.terms row.false_now row.older)
      (each (λ u. (u.lit ≡ t) ⊎ (before (opposite_lit u.lit) ≡ true)) (λ u. Old u.lit)
      (λ u h. elim h [ inl e ↦ inl (ap (λ (j : Lit). j.var) e) | inr e ↦ inr (s.within (opposite_lit u.lit) e, e) ]) reason.terms reason_parts))

  all_false : Each (λ u. (now (opposite_lit u.lit) ≡ true) × (before (opposite_lit u.lit) ≡ true)) joined
  unfolding Old
  all_false = each₂ (λ u. Old u.lit) (λ u. u.lit.var ≡ t.var → ⊥) (λ u. (now (opposite_lit u.lit) ≡ true) × (before (opposite_lit u.lit) ≡ true))
      (λ u h k. elim h [ inl e ↦ absurd (k e) | inr o ↦ o ]) joined old_there gone_there

  -- just the one pair is lost
  lost_one : lost_all c.terms reason.terms ≡ 1
  unfolding joined
  lost_one =
      let p : Point = point now in
      let none : true_sum p c.terms ≡ 0 = sum_false p c.terms (each (λ u. now (opposite_lit u.lit) ≡ true) (λ u. is_true_at p u.lit ≡ false) (λ u h. false_at now s.consistent u.lit.var u.lit.neg h) c.terms row.false_now) in
      let one : true_sum p reason.terms ≡ weight_of t reason.terms =
      sum_one p t reason.terms (true_at now s.consistent t.var t.neg s.true_now)
      (each (λ u. (u.lit ≡ t) ⊎ (before (opposite_lit u.lit) ≡ true)) (λ u. (u.lit ≡ t) ⊎ (is_true_at p u.lit ≡ false))
      (λ u h. elim h [ inl e ↦ inl e | inr e ↦ inr (false_at now s.consistent u.lit.var u.lit.neg (s.within (opposite_lit u.lit) e)) ]) reason.terms reason_parts) in
      let after : true_sum p joined ≡ 0 = sum_false p joined (each (λ u. (now (opposite_lit u.lit) ≡ true) × (before (opposite_lit u.lit) ≡ true)) (λ u. is_true_at p u.lit ≡ false)
      (λ u h. false_at now s.consistent u.lit.var u.lit.neg h.0) joined all_false) in
      omega (arith, put_all_value p c.terms reason.terms, none, one, after, weight_in_reason)

  next_is : saturate (add c reason) ≡ row_of (ones joined) 1
  next_is =
      let one : (c.degree + reason.degree) - lost_all c.terms reason.terms ≡ 1 = omega (arith, row.clause.degree, reason_clause.degree, lost_one) in
      let n : IsWellFormedRow (row_of joined 1) = subst (λ (d : ℕ). IsWellFormedRow (row_of joined d)) one joined_normal in
      ap saturate (sum_is ∙ ap (row_of joined) one)
      ∙ sym (saturate_is joined 1 (omega arith) n)
      ∙ ap (λ (us : List Term). row_of us 1) (capped_ones joined (rising_weights 0 joined n.rising))

  next_over : Lits (λ l. IsCovered n l.var) joined
  next_over = subst (λ (q : PlainRow). Lits (λ l. IsCovered n l.var) q.terms) sum_is (add_lits (λ l. IsCovered n l.var) c reason row_normal reason_normal row.over reason_over)

  reason_same : as_clause (weakened (is_other before t) r) ≡ reason
  unfolding reason terms_of
  reason_same = reason_is now before t r s

  pub next_clause_row : IsClauseRow n now before (saturate (add c (as_clause (weakened (is_other before t) r))))
  next_clause_row = subst (IsClauseRow n now before) (sym (ap (λ (q : PlainRow). saturate (add c q)) reason_same ∙ next_is)) (record {
    clause = clause_of_ones joined joined_normal.rising;
    false_now = ones_lits (λ l. now (opposite_lit l) ≡ true) joined (each (λ u. (now (opposite_lit u.lit) ≡ true) × (before (opposite_lit u.lit) ≡ true)) (λ u. now (opposite_lit u.lit) ≡ true) (λ u h. h.0) joined all_false);
    older = ones_lits (λ l. before (opposite_lit l) ≡ true) joined (each (λ u. (now (opposite_lit u.lit) ≡ true) × (before (opposite_lit u.lit) ≡ true)) (λ u. before (opposite_lit u.lit) ≡ true) (λ u h. h.1) joined all_false);
    over = ones_lits (λ l. IsCovered n l.var) joined next_over;
  })
