-- Joining terms: values at a point, order, and what a merge does.
use Rattle.std.proofs.Common.{◌≡◌, ◌≤◌, ◌<◌, ◌+◌, ◌-◌, inl, inr, ℕ, zero, suc, ℤ, Bool, true, false, List, [], ◌∷◌, ◌++◌, refl, subst, arith}
use Rattle.std.proofs.lemmas.Bool.{cases_Bool, cases_order, lt-ltb, le-ltb}
use Rattle.hrt_base.specs.declared.literal.Lit.{Lit}
use Rattle.hrt_base.specs.declared.literal.Term.{Term}
use Rattle.pb_rows.specs.Terms.{weighing, positive_part}
use Rattle.pb_rows.specs.Points.{Point, is_true_at, share, true_sum}
use Rattle.pb_rows.specs.Joined.{lost, lost_all, lost_between, met, put, put_all, remains}

-- ---- values

pub true_sum-append : (p : Point) (ts us : List Term) → true_sum p (ts ++ us) ≡ true_sum p ts + true_sum p us
true_sum-append p [] us = omega arith
true_sum-append p (t ∷ ts) us = omega (arith, true_sum-append p ts us)

term : ℤ → ℕ → Bool → Term
term a v n = record { coef = a; lit = record { var = v; neg = n } }

MetValue : Point → Term → Term → Type 0
MetValue p t u = true_sum p (met t u) + lost_between t u ≡ share p t + share p u

pub remains_value : (p : Point) (n : ℕ) (l : Lit) → true_sum p (remains n l) ≡ share p (weighing n l)
remains_value p zero l = elim (cases_Bool (is_true_at p l)) [ inl e ↦ rw e refl | inr e ↦ rw e refl ]
remains_value p (suc n) l = omega arith

met_at : (p : Point) (a b : ℤ) (v : ℕ) (m n : Bool) → MetValue p (term a v m) (term b v n)
unfolding term MetValue
met_at p a b v true true = elim (cases_Bool (p v)) [ inl e ↦ rw e (omega arith) | inr e ↦ rw e (omega arith) ]
met_at p a b v false false = elim (cases_Bool (p v)) [ inl e ↦ rw e (omega arith) | inr e ↦ rw e (omega arith) ]
met_at p a b v true false =
    let x : Lit = record { var = v; neg = false } in
    let y : Lit = record { var = v; neg = true } in
    rw (true_sum-append p (remains (positive_part b - positive_part a) x) (remains (positive_part a - positive_part b) y), remains_value p (positive_part b - positive_part a) x, remains_value p (positive_part a - positive_part b) y)
    (elim (cases_Bool (p v)) [ inl e ↦ rw e (omega arith) | inr e ↦ rw e (omega arith) ])
met_at p a b v false true =
    let x : Lit = record { var = v; neg = true } in
    let y : Lit = record { var = v; neg = false } in
    rw (true_sum-append p (remains (positive_part b - positive_part a) x) (remains (positive_part a - positive_part b) y), remains_value p (positive_part b - positive_part a) x, remains_value p (positive_part a - positive_part b) y)
    (elim (cases_Bool (p v)) [ inl e ↦ rw e (omega arith) | inr e ↦ rw e (omega arith) ])

pub met_value : (p : Point) (t u : Term) → t.lit.var ≡ u.lit.var → true_sum p (met t u) + lost_between t u ≡ share p t + share p u
unfolding term MetValue
met_value p t u e =
    subst (λ (v : ℕ). MetValue p (term t.coef t.lit.var t.lit.neg) (term u.coef v u.lit.neg)) e (met_at p t.coef u.coef t.lit.var t.lit.neg u.lit.neg)

-- the three ways in which two variables stand
pub put_below : (t u : Term) (us : List Term) → t.lit.var < u.lit.var → (put t (u ∷ us) ≡ t ∷ u ∷ us) × (lost t (u ∷ us) ≡ 0)
put_below t u us h = rw lt-ltb (refl, refl)

pub put_above : (t u : Term) (us : List Term) → u.lit.var < t.lit.var → (put t (u ∷ us) ≡ u ∷ put t us) × (lost t (u ∷ us) ≡ lost t us)
put_above t u us h =
    let k : u.lit.var ≤ t.lit.var = omega arith in
    rw (le-ltb t.lit.var u.lit.var k, lt-ltb u.lit.var t.lit.var h) (refl, refl)

pub put_at : (t u : Term) (us : List Term) → t.lit.var ≡ u.lit.var → (put t (u ∷ us) ≡ met t u ++ us) × (lost t (u ∷ us) ≡ lost_between t u)
put_at t u us h =
    let k : u.lit.var ≤ t.lit.var = omega arith in
    let j : t.lit.var ≤ u.lit.var = omega arith in
    rw (le-ltb t.lit.var u.lit.var k, le-ltb u.lit.var t.lit.var j) (refl, refl)

pub put_value : (p : Point) (t : Term) (us : List Term) → true_sum p (put t us) + lost t us ≡ share p t + true_sum p us
put_value p t [] = omega arith
put_value p t (u ∷ us) = elim (cases_order t.lit.var u.lit.var) [
  | inl e ↦ rw (put_at t u us e).0 (rw ((put_at t u us e).1, true_sum-append p (met t u) us) (omega (arith, met_value p t u e)))
  | inr (inl h) ↦ rw (put_below t u us h).0 (rw (put_below t u us h).1 (omega arith))
  | inr (inr h) ↦ rw (put_above t u us h).0 (rw (put_above t u us h).1 (omega (arith, put_value p t us)))
]

pub put_all_value : (p : Point) (us ts : List Term) → true_sum p (put_all us ts) + lost_all us ts ≡ true_sum p us + true_sum p ts
put_all_value p us [] = omega arith
put_all_value p us (t ∷ ts) = omega (arith, put_all_value p (put t us) ts, put_value p t us)
