-- The net coefficient of a variable: what a sum has of it, and that a row without it lacks the variable.
use Rattle.std.proofs.Common.{◌≡◌, ◌≤◌, ◌<◌, ◌+◌, ◌-◌, ℕ, zero, suc, ℤ, pos, negsuc, ◌+ℤ◌, neg_ℤ, Bool, true, false, ◌==◌, if◌then◌else◌, List, [], ◌∷◌, ◌++◌, map, refl, sym, ◌∙◌, ap, subst, inl, inr, arith}
use Rattle.std.proofs.lemmas.Int.{ints}
use Rattle.std.proofs.lemmas.Bool.{cases_Bool, cases_eq, cases_lt, ne_eqb, eq-eqb}
use Rattle.hrt_base.specs.declared.literal.Lit.{Lit}
use Rattle.hrt_base.specs.declared.literal.Term.{Term}
use Rattle.pb_rows.specs.Terms.{IsPositive, IsRisingFrom, PlainRow, scaled, divided, positive_part}
use Rattle.pb_rows.specs.Normal.{net, normal_form, var_bound}
use Rattle.pb_rows.specs.Rows.{IsWellFormedRow, add}
use Rattle.pb_rows.specs.Joined.{are_alike, met, put, put_all, remains}
use Rattle.pb_rows.proofs.Coefs.{coef_terms, net-append, net-coefs, net-coefs_past, net-past, normal_form-coefs}
use Rattle.pb_rows.proofs.Forms.{merged_is}
use Rattle.pb_rows.proofs.Values.{put_above, put_at, put_below}
use Rattle.std.proofs.lemmas.Bool.{cases_order}
use Rattle.propagation.proofs.Sets.{lit_cases}
use Rattle.conflict_rows.specs.Trail.{weight_of}
use Rattle.conflict_rows.proofs.Literals.{Each, each, has_each, rising_above, weight_below, weight_here, weight_there}

-- ---- sums

net_of-form : (v : ℕ) (ts : List Term) (z : ℤ) → net v (normal_form ts z).terms ≡ net v ts
net_of-form v ts z =
    let n : ℕ = var_bound ts in
    let is = normal_form-coefs n (λ w. net w ts) ts z (omega arith) (λ w l. refl) in
    let terms : (normal_form ts z).terms ≡ coef_terms n (λ w. net w ts) = ap (λ (r : PlainRow). r.terms) is in
    rw terms (elim (cases_lt v n) [
      | inl l ↦ net-coefs v n (λ w. net w ts) l
      | inr l ↦ net-coefs_past v n (λ w. net w ts) l ∙ sym (net-past v ts l)
    ])

pub net-add : (v : ℕ) (a b : PlainRow) → net v (add a b).terms ≡ net v a.terms +ℤ net v b.terms
net-add v a b = net_of-form v (a.terms ++ b.terms) (pos (a.degree + b.degree)) ∙ net-append v a.terms b.terms

-- ---- rising terms

pub net-other : (v : ℕ) (ts : List Term) → Each (λ t. t.lit.var ≡ v → ⊥) ts → net v ts ≡ pos 0
net-other v [] h = refl
net-other v (t ∷ ts) h =
    let other : (t.lit.var == v) ≡ false = ne_eqb t.lit.var v h.0 in
    rw other (omega (arith, ints, net-other v ts h.1))

-- the coefficient with the literal's sign
abbrev pub signed : Lit → ℕ → ℤ
signed l n = if l.neg then neg_ℤ (pos n) else pos n

positive_is : (z : ℤ) → IsPositive z → z ≡ pos (positive_part z)
positive_is (pos n) h = refl
positive_is (negsuc n) h = absurd h

signed_step : (b : Bool) (c z : ℤ) (n : ℕ) → c ≡ pos n → z ≡ pos 0 → (if b then neg_ℤ c else c) +ℤ z ≡ (if b then neg_ℤ (pos n) else pos n)
signed_step true c z n e f = omega (arith, ints)
signed_step false c z n e f = omega (arith, ints)

net_head : (l : Lit) (t : Term) (ts : List Term) → IsPositive t.coef → IsRisingFrom (t.lit.var + 1) ts → l ≡ t.lit → net l.var (t ∷ ts) ≡ signed l (positive_part t.coef)
net_head l t ts p r e =
    let v : t.lit.var ≡ l.var = ap (λ (k : Lit). k.var) (sym e) in
    let here : (t.lit.var == l.var) ≡ true = eq-eqb t.lit.var l.var v in
    let rest : net l.var ts ≡ pos 0 = net-other l.var ts (each (λ u. t.lit.var + 1 ≤ u.lit.var) (λ u. u.lit.var ≡ l.var → ⊥) (λ u h k. omega arith) ts (rising_above (t.lit.var + 1) ts r)) in
    let sign : t.lit.neg ≡ l.neg = ap (λ (k : Lit). k.neg) (sym e) in
    rw here (signed_step t.lit.neg t.coef (net l.var ts) (positive_part t.coef) (positive_is t.coef p) rest
    ∙ ap (λ (b : Bool). if b then neg_ℤ (pos (positive_part t.coef)) else pos (positive_part t.coef)) sign)

pub net-literal : (l : Lit) (low : ℕ) (ts : List Term) → IsRisingFrom low ts → 0 < weight_of l ts → net l.var ts ≡ signed l (weight_of l ts)
net-literal l low [] r h = absurd (omega arith)
net-literal l low (t ∷ ts) r h = elim (lit_cases l t.lit) [
  | inl e ↦
      let v : l.var ≡ t.lit.var = ap (λ (k : Lit). k.var) e in
      let n : positive_part t.coef ≡ weight_of l (t ∷ ts) = omega (arith, weight_here l t ts e, weight_below l (t.lit.var + 1) ts r.2 (omega arith)) in
      net_head l t ts r.1 r.2 e ∙ ap (signed l) n
  | inr e ↦
      let rest : 0 < weight_of l ts = omega (arith, weight_there l t ts e) in
      let v : t.lit.var + 1 ≤ l.var = has_each (λ k. t.lit.var + 1 ≤ k.var) l ts (rising_above (t.lit.var + 1) ts r.2) rest in
      let other : (t.lit.var == l.var) ≡ false = ne_eqb t.lit.var l.var (λ f. omega arith) in
      rw other (omega (arith, ints)) ∙ net-literal l (t.lit.var + 1) ts r.2 rest ∙ ap (signed l) (sym (weight_there l t ts e))
]

no_net : (b : Bool) (z : ℤ) → IsPositive z → (if b then neg_ℤ z else z) +ℤ pos 0 ≡ pos 0 → ⊥
no_net true (pos n) p e = omega (arith, ints)
no_net false (pos n) p e = omega (arith, ints)
no_net b (negsuc n) p e = absurd p

-- no term is over a variable without a net coefficient
pub gone : (v low : ℕ) (ts : List Term) → IsRisingFrom low ts → net v ts ≡ pos 0 → Each (λ t. t.lit.var ≡ v → ⊥) ts
gone v low [] r h = tt
gone v low (t ∷ ts) r h = elim (cases_eq t.lit.var v) [
  | inl e ↦
      let here : (t.lit.var == v) ≡ true = eq-eqb t.lit.var v e in
      let rest = each (λ u. t.lit.var + 1 ≤ u.lit.var) (λ u. u.lit.var ≡ v → ⊥) (λ u g k. omega arith) ts (rising_above (t.lit.var + 1) ts r.2) in
      let z : net v ts ≡ pos 0 = net-other v ts rest in
      absurd (no_net t.lit.neg t.coef r.1 (rw (here, z) at h))
  | inr e ↦
      let other : (t.lit.var == v) ≡ false = ne_eqb t.lit.var v e in
      let z : net v ts ≡ pos 0 = (let s = rw other at h in omega (arith, ints, s)) in
      (e, gone v (t.lit.var + 1) ts r.2 z)
]

-- ---- the literals of a sum are those of its parts

abbrev pub Lits : (Lit → Type 0) → List Term → Type 0
Lits Q = Each (λ (t : Term). Q t.lit)

module _ (Q : Lit → Type 0) where
  append_lits : (ts us : List Term) → Lits Q ts → Lits Q us → Lits Q (ts ++ us)
  append_lits [] us a b = b
  append_lits (t ∷ ts) us a b = (a.0, append_lits ts us a.1 b)

  remains_lits : (n : ℕ) (l : Lit) → Q l → Lits Q (remains n l)
  remains_lits zero l h = tt
  remains_lits (suc n) l h = (h, tt)

  met_lits : (t u : Term) → Q t.lit → Q u.lit → Lits Q (met t u)
  met_lits t u h k = elim (cases_Bool (are_alike t u)) [
    | inl e ↦ rw e (k, tt)
    | inr e ↦
        let x : ℕ = positive_part u.coef - positive_part t.coef in
        let y : ℕ = positive_part t.coef - positive_part u.coef in
        rw e (append_lits (remains x u.lit) (remains y t.lit) (remains_lits x u.lit k) (remains_lits y t.lit h))
  ]

  put_lits : (t : Term) (us : List Term) → Q t.lit → Lits Q us → Lits Q (put t us)
  put_lits t [] h a = (h, tt)
  put_lits t (u ∷ us) h a = elim (cases_order t.lit.var u.lit.var) [
    | inl e ↦ rw (put_at t u us e).0 (append_lits (met t u) us (met_lits t u h a.0) a.1)
    | inr (inl less) ↦ rw (put_below t u us less).0 (h, a)
    | inr (inr more) ↦ rw (put_above t u us more).0 (a.0, put_lits t us h a.1)
  ]

  put_all_lits : (us ts : List Term) → Lits Q us → Lits Q ts → Lits Q (put_all us ts)
  put_all_lits us [] a b = a
  put_all_lits us (t ∷ ts) a b = put_all_lits (put t us) ts (put_lits t us b.0 a) b.1

  pub add_lits : (a b : PlainRow) → IsWellFormedRow a → IsWellFormedRow b → Lits Q a.terms → Lits Q b.terms → Lits Q (add a b).terms
  add_lits a b m n h k = subst (λ (r : PlainRow). Lits Q r.terms) (merged_is a b m n) (put_all_lits a.terms b.terms h k)

  pub scaled_lits : (k : ℕ) (ts : List Term) → Lits Q ts → Lits Q (map (scaled k) ts)
  scaled_lits k [] h = tt
  scaled_lits k (t ∷ ts) h = (h.0, scaled_lits k ts h.1)

  pub divided_lits : (k : ℕ) (ts : List Term) → Lits Q ts → Lits Q (map (divided k) ts)
  divided_lits k [] h = tt
  divided_lits k (t ∷ ts) h = (h.0, divided_lits k ts h.1)
