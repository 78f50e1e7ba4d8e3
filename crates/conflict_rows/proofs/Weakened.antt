-- A row weakened by several variables: the terms that are left, and the degree that is left.
use Rattle.std.proofs.Common.{◌≡◌, ◌≤◌, ◌<◌, ◌+◌, ◌-◌, ℕ, zero, suc, Bool, true, false, not, ◌==◌, if◌then◌else◌, List, [], ◌∷◌, ◌++◌, map, filter, length, get_or, refl, sym, ◌∙◌, ap, ap₂, subst, inl, inr, arith, append_assoc}
use Rattle.std.specs.List.Sorted.{IsNonDecreasing}
use Rattle.std.proofs.lemmas.Bool.{cases_Bool, ne_eqb, eq-eqb}
use Rattle.std.proofs.lemmas.List.{length-map}
use Rattle.std.proofs.lemmas.List.Elements.{filter-append}
use Rattle.hrt_base.specs.declared.literal.Lit.{Lit}
use Rattle.hrt_base.specs.declared.literal.Term.{Term}
use Rattle.pb_rows.specs.Terms.{IsRisingFrom, PlainRow, coef_sum, is_over, opposite_lit, positive_part, weight_over}
use Rattle.pb_rows.specs.Rows.{IsWellFormedRow, weaken, weaken_all}
use Rattle.pb_rows.specs.Closure.{Literals, nonfalse_sum}
use Rattle.pb_rows.proofs.Changes.{row_of}
use Rattle.pb_rows.proofs.Order.{rising_down}
use Rattle.propagation.proofs.Sets.{lit_cases}
use Rattle.conflict_rows.specs.Trail.{weight_of}
use Rattle.conflict_rows.specs.Weakening.{vars_where, weakened}
use Rattle.conflict_rows.proofs.Literals.{Each, each, rising_above, weight_here, weight_there}

-- the weights of the terms that pass
abbrev pub weight_where : (Term → Bool) → List Term → ℕ
weight_where p [] = 0
weight_where p (t ∷ ts) = (if p t then positive_part t.coef else 0) + weight_where p ts

-- the terms that don't pass
abbrev pub others : (Term → Bool) → List Term → List Term
others p ts = filter (λ t. not (p t)) ts

-- ---- one variable

others_over : (v : ℕ) (ts : List Term) → Each (λ t. t.lit.var ≡ v → ⊥) ts → (filter (λ t. not (is_over v t)) ts ≡ ts) × (weight_over v ts ≡ 0)
others_over v [] h = (refl, refl)
others_over v (t ∷ ts) h =
    let other : (t.lit.var == v) ≡ false = ne_eqb t.lit.var v h.0 in
    let rest = others_over v ts h.1 in
    rw other (ap (λ (us : List Term). t ∷ us) rest.0, omega (arith, rest.1))

weight_over-append : (v : ℕ) (ts us : List Term) → weight_over v (ts ++ us) ≡ weight_over v ts + weight_over v us
weight_over-append v [] us = omega arith
weight_over-append v (t ∷ ts) us = omega (arith, weight_over-append v ts us)

one_gone : (t : Term) (kept ts : List Term) (d : ℕ) → Each (λ u. u.lit.var < t.lit.var) kept → IsRisingFrom (t.lit.var + 1) ts →
    weaken t.lit.var (row_of (kept ++ t ∷ ts) d) ≡ row_of (kept ++ ts) (d - positive_part t.coef)
one_gone t kept ts d b r =
    let v : ℕ = t.lit.var in
    let here : (t.lit.var == v) ≡ true = eq-eqb t.lit.var v refl in
    let left = others_over v kept (each (λ u. u.lit.var < v) (λ u. u.lit.var ≡ v → ⊥) (λ u h e. omega arith) kept b) in
    let right = others_over v ts (each (λ u. v + 1 ≤ u.lit.var) (λ u. u.lit.var ≡ v → ⊥) (λ u h e. omega arith) ts (rising_above (v + 1) ts r)) in
    let terms : filter (λ u. not (is_over v u)) (kept ++ t ∷ ts) ≡ kept ++ ts =
    filter-append (λ u. not (is_over v u)) kept (t ∷ ts) ∙ ap₂ (λ (us ws : List Term). us ++ ws) left.0 (rw here right.0) in
    let head : weight_over v (t ∷ ts) ≡ positive_part t.coef = rw here (omega (arith, right.1)) in
    let weights : weight_over v (kept ++ t ∷ ts) ≡ positive_part t.coef = omega (arith, weight_over-append v kept (t ∷ ts), left.1, head) in
    ap₂ row_of terms (ap (λ (n : ℕ). d - n) weights)

-- ---- all that pass

module _ (p : Term → Bool) where
  from_kept : (low : ℕ) (kept ts : List Term) (d : ℕ) → Each (λ u. u.lit.var < low) kept → IsRisingFrom low ts →
      weaken_all (vars_where p ts) (row_of (kept ++ ts) d) ≡ row_of (kept ++ others p ts) (d - weight_where p ts)
  from_kept low kept [] d b r = ap (row_of (kept ++ [])) (omega arith)
  from_kept low kept (t ∷ ts) d b r = elim (cases_Bool (p t)) [
    | inl e ↦
        let below : Each (λ u. u.lit.var < t.lit.var) kept = each (λ u. u.lit.var < low) (λ u. u.lit.var < t.lit.var) (λ u h. omega (arith, r.0)) kept b in
        let next : Each (λ u. u.lit.var < t.lit.var + 1) kept = each (λ u. u.lit.var < low) (λ u. u.lit.var < t.lit.var + 1) (λ u h. omega (arith, r.0)) kept b in
        rw e (ap (λ (s : PlainRow). weaken_all (vars_where p ts) s) (one_gone t kept ts d below r.2)
        ∙ from_kept (t.lit.var + 1) kept ts (d - positive_part t.coef) next r.2
        ∙ ap (row_of (kept ++ others p ts)) (omega arith))
    | inr e ↦
        let next : Each (λ u. u.lit.var < t.lit.var + 1) (kept ++ t ∷ []) =
        one_more kept (each (λ u. u.lit.var < low) (λ u. u.lit.var < t.lit.var + 1) (λ u h. omega (arith, r.0)) kept b) in
        rw e (ap (λ (us : List Term). weaken_all (vars_where p ts) (row_of us d)) (sym (append_assoc kept (t ∷ []) ts))
        ∙ from_kept (t.lit.var + 1) (kept ++ t ∷ []) ts d next r.2
        ∙ ap₂ row_of (append_assoc kept (t ∷ []) (others p ts)) (omega arith))
  ]
    where
      one_more : (us : List Term) → Each (λ u. u.lit.var < t.lit.var + 1) us → Each (λ u. u.lit.var < t.lit.var + 1) (us ++ t ∷ [])
      one_more [] h = (omega arith, tt)
      one_more (u ∷ us) h = (h.0, one_more us h.1)

  pub weakened_is : (r : PlainRow) → IsRisingFrom 0 r.terms → weakened p r ≡ row_of (others p r.terms) (r.degree - weight_where p r.terms)
  weakened_is r h = from_kept 0 [] r.terms r.degree tt h

  -- ---- what is left

  pub others_each : (P : Term → Type 0) (ts : List Term) → Each P ts → Each (λ t. P t × (p t ≡ false)) (others p ts)
  others_each P [] h = tt
  others_each P (t ∷ ts) h = elim (cases_Bool (p t)) [
    | inl e ↦ rw e (others_each P ts h.1)
    | inr e ↦ rw e ((h.0, e), others_each P ts h.1)
  ]

  pub others_rising : (low : ℕ) (ts : List Term) → IsRisingFrom low ts → IsRisingFrom low (others p ts)
  others_rising low [] r = tt
  others_rising low (t ∷ ts) r = elim (cases_Bool (p t)) [
    | inl e ↦ rw e (rising_down low (t.lit.var + 1) (others p ts) (omega (arith, r.0)) (others_rising (t.lit.var + 1) ts r.2))
    | inr e ↦ rw e (r.0, r.1, others_rising (t.lit.var + 1) ts r.2)
  ]

  pub others_sum : (ts : List Term) → coef_sum (others p ts) ≤ coef_sum ts
  others_sum [] = omega arith
  others_sum (t ∷ ts) = elim (cases_Bool (p t)) [ inl e ↦ rw e (omega (arith, others_sum ts)) | inr e ↦ rw e (omega (arith, others_sum ts)) ]

  -- where nothing that goes is false, the open sum loses what goes
  pub others_open : (set : Literals) (ts : List Term) → Each (λ t. p t ≡ true → set (opposite_lit t.lit) ≡ false) ts →
      nonfalse_sum set (others p ts) + weight_where p ts ≡ nonfalse_sum set ts
  others_open set [] h = refl
  others_open set (t ∷ ts) h = elim (cases_Bool (p t)) [
    | inl e ↦ rw (e, h.0 e) (omega (arith, others_open set ts h.1))
    | inr e ↦ rw e (omega (arith, others_open set ts h.1))
  ]

  -- a literal that doesn't pass keeps its coefficient
  pub others_weight : (l : Lit) (ts : List Term) → Each (λ t. l ≡ t.lit → p t ≡ false) ts → weight_of l (others p ts) ≡ weight_of l ts
  others_weight l [] h = refl
  others_weight l (t ∷ ts) h = elim (lit_cases l t.lit) [
    | inl s ↦ rw (h.0 s) (weight_here l t (others p ts) s ∙ ap (λ (n : ℕ). positive_part t.coef + n) (others_weight l ts h.1) ∙ sym (weight_here l t ts s))
    | inr s ↦ elim (cases_Bool (p t)) [
      | inl e ↦ rw e (others_weight l ts h.1 ∙ sym (weight_there l t ts s))
      | inr e ↦ rw e (weight_there l t (others p ts) s ∙ others_weight l ts h.1 ∙ sym (weight_there l t ts s))
    ]
  ]

  pub weakened_normal : (r : PlainRow) → IsWellFormedRow r → IsWellFormedRow (weakened p r)
  weakened_normal r n = subst IsWellFormedRow (sym (weakened_is r n.rising)) (record {
    rising = others_rising 0 r.terms n.rising;
    fits = record { sum = omega (arith, others_sum r.terms, n.fits.sum); degree = omega (arith, n.fits.degree) };
  })

-- ---- the variables rise

passed_rising : (p : Term → Bool) (low : ℕ) (ts : List Term) → IsRisingFrom low ts → IsRisingFrom low (filter p ts)
passed_rising p low [] r = tt
passed_rising p low (t ∷ ts) r = elim (cases_Bool (p t)) [
  | inl e ↦ rw e (r.0, r.1, passed_rising p (t.lit.var + 1) ts r.2)
  | inr e ↦ rw e (rising_down low (t.lit.var + 1) (filter p ts) (omega (arith, r.0)) (passed_rising p (t.lit.var + 1) ts r.2))
]

vars_above : (low : ℕ) (ts : List Term) → IsRisingFrom low ts → (j d : ℕ) → j < length ts → low ≤ get_or (map (λ (t : Term). t.lit.var) ts) j d
vars_above low [] r j d h = absurd (omega arith)
vars_above low (t ∷ ts) r zero d h = r.0
vars_above low (t ∷ ts) r (suc j) d h = omega (arith, r.0, vars_above (t.lit.var + 1) ts r.2 j d (omega (arith, h)))

vars_rising : (low : ℕ) (ts : List Term) → IsRisingFrom low ts → (i j d : ℕ) → i ≤ j → j < length ts → get_or (map (λ (t : Term). t.lit.var) ts) i d ≤ get_or (map (λ (t : Term). t.lit.var) ts) j d
vars_rising low [] r i j d le h = absurd (omega arith)
vars_rising low (t ∷ ts) r zero zero d le h = omega arith
vars_rising low (t ∷ ts) r zero (suc j) d le h = omega (arith, vars_above (t.lit.var + 1) ts r.2 j d (omega (arith, h)))
vars_rising low (t ∷ ts) r (suc i) zero d le h = absurd (omega arith)
vars_rising low (t ∷ ts) r (suc i) (suc j) d le h = vars_rising (t.lit.var + 1) ts r.2 i j d (omega (arith, le)) (omega (arith, h))

pub vars_where-rise : (p : Term → Bool) (ts : List Term) → IsRisingFrom 0 ts → IsNonDecreasing (vars_where p ts)
vars_where-rise p ts r i j d le h = vars_rising 0 (filter p ts) (passed_rising p 0 ts r) i j d le (omega (arith, h, length-map (filter p ts) (λ (t : Term). t.lit.var)))
