-- Literals, and their coefficients in lists of terms.
use Rattle.std.proofs.Common.{◌≡◌, ◌⊎◌, ◌≤◌, ◌<◌, ◌+◌, ℕ, Bool, true, false, not, List, [], ◌∷◌, refl, sym, ap, ap₂, subst, inl, inr, arith}
use Rattle.std.specs.List.{AllByRecursion}
use Rattle.std.proofs.lemmas.Bool.{cases_lt, lt-ltb, ltb-true}
use Rattle.hrt_base.specs.declared.literal.Lit.{Lit}
use Rattle.hrt_base.specs.declared.literal.Term.{Term}
use Rattle.pb_rows.specs.Terms.{IsRisingFrom, opposite_lit, positive_part}
use Rattle.pb_rows.specs.Closure.{is_same_lit}
use Rattle.pb_rows.proofs.Order.{positive_weight}
use Rattle.propagation.proofs.Sets.{lit_cases, lit_itself}
use Rattle.conflict_rows.specs.Trail.{has, weight_of}

abbrev make : ℕ → Bool → Lit
make v n = record { var = v; neg = n }

not_not : (b : Bool) → not (not b) ≡ b
not_not true = refl
not_not false = refl

pub opposite-opposite : (l : Lit) → opposite_lit (opposite_lit l) ≡ l
opposite-opposite l = ap (make l.var) (not_not l.neg)

not_itself : (b : Bool) → b ≡ not b → ⊥
not_itself true e = cc
not_itself false e = cc

pub opposite-other : (l : Lit) → l ≡ opposite_lit l → ⊥
opposite-other l e = not_itself l.neg (ap (λ (k : Lit). k.neg) e)

-- a literal of the variable is the one or the other
sign_cases : (a b : Bool) → (a ≡ b) ⊎ (a ≡ not b)
sign_cases true true = inl refl
sign_cases true false = inr refl
sign_cases false true = inr refl
sign_cases false false = inl refl

pub var_cases : (a b : Lit) → a.var ≡ b.var → (a ≡ b) ⊎ (a ≡ opposite_lit b)
var_cases a b e = elim (sign_cases a.neg b.neg) [ inl s ↦ inl (ap₂ make e s) | inr s ↦ inr (ap₂ make e s) ]

-- ---- facts of each term

abbrev pub Each : (Term → Type 0) → List Term → Type 0
Each P = AllByRecursion P

pub each : (P Q : Term → Type 0) → ((t : Term) → P t → Q t) → (ts : List Term) → Each P ts → Each Q ts
each P Q f [] a = tt
each P Q f (t ∷ ts) a = (f t a.0, each P Q f ts a.1)

pub each₂ : (P Q R : Term → Type 0) → ((t : Term) → P t → Q t → R t) → (ts : List Term) → Each P ts → Each Q ts → Each R ts
each₂ P Q R f [] a b = tt
each₂ P Q R f (t ∷ ts) a b = (f t a.0 b.0, each₂ P Q R f ts a.1 b.1)

pub each_of : (P : Term → Type 0) → ((t : Term) → P t) → (ts : List Term) → Each P ts
each_of P f [] = tt
each_of P f (t ∷ ts) = (f t, each_of P f ts)

-- ---- coefficients of literals

pub weight_here : (l : Lit) (t : Term) (ts : List Term) → l ≡ t.lit → weight_of l (t ∷ ts) ≡ positive_part t.coef + weight_of l ts
weight_here l t ts e = let s : is_same_lit l t.lit ≡ true = subst (λ (k : Lit). is_same_lit l k ≡ true) e (lit_itself l) in rw s refl

pub weight_there : (l : Lit) (t : Term) (ts : List Term) → is_same_lit l t.lit ≡ false → weight_of l (t ∷ ts) ≡ weight_of l ts
weight_there l t ts e = rw e (omega arith)

-- what holds of each term's literal holds of a literal that stands there
pub has_each : (Q : Lit → Type 0) (l : Lit) (ts : List Term) → Each (λ t. Q t.lit) ts → 0 < weight_of l ts → Q l
has_each Q l [] a h = absurd (omega arith)
has_each Q l (t ∷ ts) a h = elim (lit_cases l t.lit) [
  | inl e ↦ subst Q (sym e) a.0
  | inr e ↦ has_each Q l ts a.1 (omega (arith, weight_there l t ts e))
]

pub has_true : (l : Lit) (ts : List Term) → has l ts ≡ true → 0 < weight_of l ts
has_true l ts h = ltb-true 0 (weight_of l ts) h

pub has_from : (l : Lit) (ts : List Term) → 0 < weight_of l ts → has l ts ≡ true
has_from l ts h = lt-ltb 0 (weight_of l ts) h

pub rising_above : (low : ℕ) (ts : List Term) → IsRisingFrom low ts → Each (λ t. low ≤ t.lit.var) ts
rising_above low [] r = tt
rising_above low (t ∷ ts) r = (r.0, each (λ u. t.lit.var + 1 ≤ u.lit.var) (λ u. low ≤ u.lit.var) (λ u h. omega (arith, h, r.0)) ts (rising_above (t.lit.var + 1) ts r.2))

pub rising_weights : (low : ℕ) (ts : List Term) → IsRisingFrom low ts → Each (λ t. 0 < positive_part t.coef) ts
rising_weights low [] r = tt
rising_weights low (t ∷ ts) r = (positive_weight t.coef r.1, rising_weights (t.lit.var + 1) ts r.2)

-- a literal below all variables has no coefficient
pub weight_below : (l : Lit) (low : ℕ) (ts : List Term) → IsRisingFrom low ts → l.var < low → weight_of l ts ≡ 0
weight_below l low ts r h = elim (cases_lt 0 (weight_of l ts)) [
  | inl p ↦ absurd (omega (arith, h, has_each (λ k. low ≤ k.var) l ts (rising_above low ts r) p))
  | inr z ↦ omega arith
]

-- the term is over another variable, or its literal is this one, with this coefficient
abbrev pub IsOnly : Lit → ℕ → Term → Type 0
IsOnly l n u = (u.lit.var ≡ l.var → ⊥) ⊎ ((u.lit ≡ l) × (positive_part u.coef ≡ n))

pub only_term : (l : Lit) (low : ℕ) (ts : List Term) → IsRisingFrom low ts → 0 < weight_of l ts → Each (IsOnly l (weight_of l ts)) ts
only_term l low [] r h = tt
only_term l low (t ∷ ts) r h = elim (lit_cases l t.lit) [
  | inl e ↦
      let none : weight_of l ts ≡ 0 = weight_below l (t.lit.var + 1) ts r.2 (let v : l.var ≡ t.lit.var = ap (λ (k : Lit). k.var) e in omega arith) in
      let whole : weight_of l (t ∷ ts) ≡ positive_part t.coef + weight_of l ts = weight_here l t ts e in
      let v : l.var ≡ t.lit.var = ap (λ (k : Lit). k.var) e in (
        inr (sym e, omega arith),
        each (λ u. t.lit.var + 1 ≤ u.lit.var) (IsOnly l (weight_of l (t ∷ ts))) (λ u k. inl (λ f. omega (arith, k, f))) ts (rising_above (t.lit.var + 1) ts r.2),
      )
  | inr e ↦
      let rest : 0 < weight_of l ts = omega (arith, weight_there l t ts e) in
      let v : t.lit.var + 1 ≤ l.var = has_each (λ k. t.lit.var + 1 ≤ k.var) l ts (rising_above (t.lit.var + 1) ts r.2) rest in
      (inl (λ f. omega (arith, f)), subst (λ (n : ℕ). Each (IsOnly l n) ts) (sym (weight_there l t ts e)) (only_term l (t.lit.var + 1) ts r.2 rest))
]
