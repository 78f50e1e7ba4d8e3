-- One step of the cut rows: the next row is falsified too, and its false literals are older.
use Rattle.std.proofs.Common.{◌≡◌, ◌⊎◌, ◌≤◌, ◌<◌, ◌+◌, ◌-◌, ◌*◌, ◌%◌, ℕ, zero, suc, pos, ◌+ℤ◌, neg_ℤ, Bool, true, false, not, ◌==◌, ◌&&◌, ◌||◌, if◌then◌else◌, List, [], ◌∷◌, map, refl, sym, ◌∙◌, ap, ap₂, subst, inl, inr, arith}
use Rattle.std.specs.Int.{div_ceil}
use Rattle.std.proofs.lemmas.Int.{ints}
use Rattle.std.proofs.lemmas.Bool.{and_cases, and_parts, cases_Bool, cases_lt, eqb-true, ne_eqb, not-false, not-true, or_cases, or_parts}
use Rattle.std.proofs.lemmas.Grind.{div_ceil_times}
use Rattle.std.proofs.Math.Nat.{mod_self, mul-le-mul_right}
use Rattle.hrt_base.specs.declared.literal.Lit.{Lit}
use Rattle.hrt_base.specs.declared.literal.Term.{Term}
use Rattle.pb_rows.specs.Terms.{IsRisingFrom, PlainRow, divided, opposite_lit, scaled, positive_part}
use Rattle.pb_rows.specs.Rows.{Fits, IsWellFormedRow, add, divide, times}
use Rattle.pb_rows.specs.Closure.{Literals, is_same_lit, nonfalse_sum}
use Rattle.pb_rows.proofs.Changes.{divide_normal, fits_times, reweighed_rising, row_of, times_normal}
use Rattle.pb_rows.proofs.Forms.{merged_is, merged_normal}
use Rattle.propagation.proofs.Sets.{lit_cases, lit_is}
use Rattle.conflict_rows.specs.Trail.{PropagatesLiteral, weight_of}
use Rattle.conflict_rows.specs.Weakening.{weakened}
use Rattle.conflict_rows.specs.CutRows.{is_weakened}
use Rattle.conflict_rows.proofs.Literals.{Each, IsOnly, each, each_of, each₂, only_term, weight_below, weight_here, weight_there}
use Rattle.conflict_rows.proofs.OpenSums.{IsConsistent, IsFalseToo, IsMultiple, add_slack, divided_slack, open-divided, open-le, open-scaled}
use Rattle.conflict_rows.proofs.Weakened.{others, others_each, others_open, others_weight, weakened_is, weakened_normal, weight_where}
use Rattle.conflict_rows.proofs.Nets.{Lits, add_lits, divided_lits, gone, net-add, net-literal, scaled_lits, signed}

-- ---- coefficients after division and multiplication

pub weight_scaled : (l : Lit) (k : ℕ) (ts : List Term) → weight_of l (map (scaled k) ts) ≡ weight_of l ts * k
weight_scaled l k [] = omega arith
weight_scaled l k (t ∷ ts) = elim (cases_Bool (is_same_lit l t.lit)) [
  | inl e ↦ rw e (omega (arith, weight_scaled l k ts))
  | inr e ↦ rw e (omega (arith, weight_scaled l k ts))
]

divided_positive : (k : ℕ) → 0 < k → (n : ℕ) → 0 < n → 0 < div_ceil n k
divided_positive k p n h = elim (cases_lt 0 (div_ceil n k)) [
  | inl q ↦ q
  | inr q ↦ absurd (omega (arith, (div_ceil_times n k p).0, mul-le-mul_right k q))
]

pub weight_divided : (l : Lit) (k low : ℕ) (ts : List Term) → 0 < k → IsRisingFrom low ts → 0 < weight_of l ts → weight_of l (map (divided k) ts) ≡ div_ceil (weight_of l ts) k
weight_divided l k low [] p r h = absurd (omega arith)
weight_divided l k low (t ∷ ts) p r h = elim (lit_cases l t.lit) [
  | inl e ↦
      let v : l.var ≡ t.lit.var = ap (λ (j : Lit). j.var) e in
      let none : weight_of l ts ≡ 0 = weight_below l (t.lit.var + 1) ts r.2 (omega arith) in
      let few : weight_of l (map (divided k) ts) ≡ 0 =
      weight_below l (t.lit.var + 1) (map (divided k) ts) (reweighed_rising (λ n. div_ceil n k) (divided_positive k p) (t.lit.var + 1) ts r.2) (omega arith) in
      let whole : weight_of l (t ∷ ts) ≡ positive_part t.coef = omega (arith, weight_here l t ts e) in
      weight_here l (divided k t) (map (divided k) ts) e ∙ omega arith ∙ ap (λ n. div_ceil n k) (sym whole)
  | inr e ↦
      let rest : 0 < weight_of l ts = omega (arith, weight_there l t ts e) in
      weight_there l (divided k t) (map (divided k) ts) e ∙ weight_divided l k (t.lit.var + 1) ts p r.2 rest ∙ ap (λ n. div_ceil n k) (sym (weight_there l t ts e))
]

pub by_itself : (n : ℕ) → 0 < n → div_ceil n n ≡ 1
by_itself n p = by (div_ceil n n) (div_ceil_times n n p)
  where
    by : (q : ℕ) → (n ≤ q * n) × (q * n < n + n) → q ≡ 1
    by zero h = absurd (omega arith)
    by (suc zero) h = refl
    by (suc (suc q)) h = let m : 2 * n ≤ suc (suc q) * n = mul-le-mul_right n (omega arith) in absurd (omega arith)

-- ---- the reduced reason

-- The literal t, true now, was made true by the row r under what was before it, which is part of what is true now.
pub record IsStep (now before : Literals) (t : Lit) (r : PlainRow) : Type 0 where
  pub consistent : IsConsistent now
  pub within : (l : Lit) → before l ≡ true → now l ≡ true
  pub true_now : now t ≡ true
  pub normal : IsWellFormedRow r
  pub propagates : PropagatesLiteral before r t

module _ (now before : Literals) (t : Lit) (r : PlainRow) (s : IsStep now before t r) where
  goes : Term → Bool
  goes = is_weakened now before t (weight_of t r.terms)

  -- what a term that is left keeps
  Left : Term → Type 0
  Left u = before (opposite_lit u.lit) ≡ false → (now (opposite_lit u.lit) ≡ false) × (positive_part u.coef % weight_of t r.terms ≡ 0)

  left_by : (u : Term) → IsOnly t (weight_of t r.terms) u → goes u ≡ false → Left u
  unfolding goes Left
  left_by u (inr h) g f =
      let none : now (opposite_lit u.lit) ≡ false = rw h.0 (s.consistent t s.true_now) in
      (none, rw h.1 (mod_self (weight_of t r.terms)))
  left_by u (inl h) g f =
      let other : (u.lit.var == t.var) ≡ false = ne_eqb u.lit.var t.var h in
      let first : (not (u.lit.var == t.var) && not (before (opposite_lit u.lit))) ≡ true = rw (other, f) refl in
      elim (and_cases (not (u.lit.var == t.var) && not (before (opposite_lit u.lit))) (now (opposite_lit u.lit) || not (positive_part u.coef % weight_of t r.terms == 0)) g) [
        | inl bad ↦ absurd (cc)
        | inr rest ↦ let p = or_parts (now (opposite_lit u.lit)) (not (positive_part u.coef % weight_of t r.terms == 0)) rest in (p.0, eqb-true _ _ (not-false _ p.1))
      ]

  terms_left : List Term
  terms_left = others goes r.terms

  left : Each Left terms_left
  unfolding terms_left
  left = each (λ u. IsOnly t (weight_of t r.terms) u × (goes u ≡ false)) Left (λ u h. left_by u h.0 h.1) (others goes r.terms)
      (others_each goes (IsOnly t (weight_of t r.terms)) r.terms (only_term t 0 r.terms s.normal.rising s.propagates.stands))

  multiples : Each (IsMultiple before (weight_of t r.terms)) terms_left
  unfolding Left
  multiples = each Left (IsMultiple before (weight_of t r.terms)) (λ u h f. (h f).1) terms_left left

  -- what is false now and is left was false before
  was_false : (u : Term) → Left u → IsFalseToo now before u
  unfolding Left
  was_false u h n = elim (cases_Bool (before (opposite_lit u.lit))) [ inl e ↦ e | inr e ↦ let k = (h e).0 in absurd (cc) ]

  older_left : Lits (λ l. now (opposite_lit l) ≡ true → before (opposite_lit l) ≡ true) terms_left
  older_left = each Left (λ u. IsFalseToo now before u) was_false terms_left left

  kept_open : nonfalse_sum before terms_left + weight_where goes r.terms ≡ nonfalse_sum before r.terms
  unfolding terms_left goes
  kept_open = others_open goes before r.terms (each_of (λ u. goes u ≡ true → before (opposite_lit u.lit) ≡ false) (λ u g. not-true _ (and_parts _ _ (and_parts _ _ g).0).1) r.terms)

  abbrev pub reduced_row : PlainRow
  reduced_row = divide (weight_of t r.terms) (weakened (is_weakened now before t (weight_of t r.terms)) r)

  degree_left : ℕ
  degree_left = r.degree - weight_where goes r.terms

  reduced_is : reduced_row ≡ row_of (map (divided (weight_of t r.terms)) terms_left) (div_ceil degree_left (weight_of t r.terms))
  unfolding goes terms_left degree_left
  reduced_is = ap (divide (weight_of t r.terms)) (weakened_is goes r s.normal.rising)

  -- its slack is at most 0
  slack_before : nonfalse_sum before (map (divided (weight_of t r.terms)) terms_left) ≤ div_ceil degree_left (weight_of t r.terms)
  unfolding degree_left
  slack_before = divided_slack (nonfalse_sum before (map (divided (weight_of t r.terms)) terms_left)) degree_left (weight_of t r.terms) s.propagates.stands
      (omega (arith, open-divided before (weight_of t r.terms) terms_left s.propagates.stands multiples, kept_open, s.propagates.exceeds))

  pub reduced_slack : nonfalse_sum now reduced_row.terms ≤ reduced_row.degree
  reduced_slack = subst (λ (q : PlainRow). nonfalse_sum now q.terms ≤ q.degree) (sym reduced_is)
      (omega (arith, slack_before, open-le before now (map (divided (weight_of t r.terms)) terms_left) (each_of (λ u. IsFalseToo before now u) (λ u h. s.within (opposite_lit u.lit) h) _)))

  pub reduced_older : Lits (λ l. now (opposite_lit l) ≡ true → before (opposite_lit l) ≡ true) reduced_row.terms
  reduced_older = subst (λ (q : PlainRow). Lits (λ l. now (opposite_lit l) ≡ true → before (opposite_lit l) ≡ true) q.terms) (sym reduced_is)
      (divided_lits (λ l. now (opposite_lit l) ≡ true → before (opposite_lit l) ≡ true) (weight_of t r.terms) terms_left older_left)

  weakened_row : IsWellFormedRow (row_of terms_left degree_left)
  unfolding goes terms_left degree_left
  weakened_row = subst IsWellFormedRow (weakened_is goes r s.normal.rising) (weakened_normal goes r s.normal)

  pub reduced_normal : IsWellFormedRow reduced_row
  reduced_normal = subst IsWellFormedRow (sym reduced_is) (divide_normal (weight_of t r.terms) terms_left degree_left s.propagates.stands weakened_row)

  kept_weight : weight_of t terms_left ≡ weight_of t r.terms
  unfolding goes terms_left
  kept_weight = others_weight goes t r.terms (each_of (λ u. t ≡ u.lit → goes u ≡ false) (λ u e. let same : (u.lit.var == t.var) ≡ true = rw (sym e) (itself t.var) in rw same refl) r.terms)
    where
      itself : (n : ℕ) → (n == n) ≡ true
      itself n = grind arith

  -- t has the coefficient 1
  pub reduced_weight : weight_of t reduced_row.terms ≡ 1
  reduced_weight =
      let a : ℕ = weight_of t r.terms in
      ap (λ (q : PlainRow). weight_of t q.terms) reduced_is
      ∙ weight_divided t a 0 terms_left s.propagates.stands weakened_row.rising (rw kept_weight s.propagates.stands)
      ∙ ap (λ n. div_ceil n a) kept_weight ∙ by_itself a s.propagates.stands

-- ---- the next row

-- A row that is falsified now, and whose false literals were all there when the literals of a set were.
pub record IsCutRow (now before : Literals) (c : PlainRow) : Type 0 where
  pub normal : IsWellFormedRow c
  pub falsified : nonfalse_sum now c.terms < c.degree
  pub older : Lits (λ l. now (opposite_lit l) ≡ true → before (opposite_lit l) ≡ true) c.terms

-- the set with one more literal
abbrev pub with_lit : Lit → Literals → Literals
with_lit t before l = is_same_lit l t || before l

pub opposite_signed : (l : Lit) (m n : ℕ) → m ≡ n → signed (opposite_lit l) m +ℤ signed l n ≡ pos 0
opposite_signed l m n e = by l.neg
  where
    by : (b : Bool) → (if not b then neg_ℤ (pos m) else pos m) +ℤ (if b then neg_ℤ (pos n) else pos n) ≡ pos 0
    by true = omega (arith, ints)
    by false = omega (arith, ints)

module _ (now before : Literals) (t : Lit) (r c : PlainRow) (s : IsStep now before t r) (row : IsCutRow now (with_lit t before) c) (stands : 0 < weight_of (opposite_lit t) c.terms) where
  abbrev pub multiple : PlainRow
  multiple = times (weight_of (opposite_lit t) c.terms) (reduced_row now before t r s)

  multiple_normal : Fits multiple → IsWellFormedRow multiple
  multiple_normal f =
      let q : PlainRow = reduced_row now before t r s in
      let k : ℕ = weight_of (opposite_lit t) c.terms in
      times_normal k q.terms q.degree stands (fits_times k q.terms q.degree f) (reduced_normal now before t r s)

  multiple_slack : nonfalse_sum now multiple.terms ≤ multiple.degree
  multiple_slack =
      let q : PlainRow = reduced_row now before t r s in
      let k : ℕ = weight_of (opposite_lit t) c.terms in
      omega (arith, open-scaled now k q.terms, mul-le-mul_right k (reduced_slack now before t r s))

  multiple_weight : weight_of t multiple.terms ≡ weight_of (opposite_lit t) c.terms
  multiple_weight =
      let q : PlainRow = reduced_row now before t r s in
      let k : ℕ = weight_of (opposite_lit t) c.terms in
      let one : weight_of t q.terms ≡ 1 = reduced_weight now before t r s in
      weight_scaled t k q.terms ∙ rw one (omega arith)

  multiple_older : Lits (λ l. now (opposite_lit l) ≡ true → before (opposite_lit l) ≡ true) multiple.terms
  multiple_older = scaled_lits (λ l. now (opposite_lit l) ≡ true → before (opposite_lit l) ≡ true) (weight_of (opposite_lit t) c.terms) (reduced_row now before t r s).terms (reduced_older now before t r s)

  sum_normal : Fits multiple → Fits (add c multiple) → IsWellFormedRow (add c multiple)
  sum_normal f g = subst IsWellFormedRow (merged_is c multiple row.normal (multiple_normal f)) (merged_normal c multiple row.normal (multiple_normal f) g)

  -- the variable of t is gone
  without : Fits multiple → Fits (add c multiple) → Each (λ u. u.lit.var ≡ t.var → ⊥) (add c multiple).terms
  without f g =
      let m = multiple_normal f in
      let k : ℕ = weight_of (opposite_lit t) c.terms in
      let here : 0 < weight_of t multiple.terms = rw multiple_weight stands in
      gone t.var 0 (add c multiple).terms (sum_normal f g).rising
      (net-add t.var c multiple
      ∙ ap₂ ◌+ℤ◌ (net-literal (opposite_lit t) 0 c.terms row.normal.rising stands) (net-literal t 0 multiple.terms m.rising here)
      ∙ opposite_signed t k (weight_of t multiple.terms) (sym multiple_weight))

  -- a literal of the sum is over t's variable, or was false before t if it is false now
  Older : Lit → Type 0
  Older l = (l.var ≡ t.var) ⊎ (now (opposite_lit l) ≡ true → before (opposite_lit l) ≡ true)

  older_of : (l : Lit) → (now (opposite_lit l) ≡ true → with_lit t before (opposite_lit l) ≡ true) → Older l
  unfolding Older
  older_of l h = elim (cases_Bool (is_same_lit (opposite_lit l) t)) [
    | inl e ↦ inl (ap (λ (k : Lit). k.var) (lit_is (opposite_lit l) t e))
    | inr e ↦ inr (λ n. elim (or_cases (is_same_lit (opposite_lit l) t) (before (opposite_lit l)) (h n)) [ inl f ↦ absurd (cc) | inr f ↦ f ])
  ]

  sum_older : Fits multiple → Lits Older (add c multiple).terms
  unfolding Older
  sum_older f = add_lits Older c multiple row.normal (multiple_normal f)
      (each (λ u. now (opposite_lit u.lit) ≡ true → with_lit t before (opposite_lit u.lit) ≡ true) (λ u. Older u.lit) (λ u h. older_of u.lit h) c.terms row.older)
      (each (λ u. now (opposite_lit u.lit) ≡ true → before (opposite_lit u.lit) ≡ true) (λ u. Older u.lit) (λ u h. inr h) multiple.terms multiple_older)

  sum_falsified : Fits multiple → nonfalse_sum now (add c multiple).terms < (add c multiple).degree
  sum_falsified f = omega (arith, add_slack now s.consistent c multiple row.normal (multiple_normal f), row.falsified, multiple_slack)

  pub next_row : Fits multiple → Fits (add c multiple) → IsCutRow now before (add c multiple)
  unfolding Older
  next_row f g = record {
    normal = sum_normal f g;
    falsified = sum_falsified f;
    older = each₂ (λ u. Older u.lit) (λ u. u.lit.var ≡ t.var → ⊥) (λ u. now (opposite_lit u.lit) ≡ true → before (opposite_lit u.lit) ≡ true)
        (λ u h k. elim h [ inl e ↦ absurd (k e) | inr o ↦ o ]) (add c multiple).terms (sum_older f) (without f g);
  }
