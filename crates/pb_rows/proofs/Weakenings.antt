-- Weakening by many variables: one after another, and in one pass.
use Rattle.std.proofs.Common.{◌≡◌, ◌∙◌, ◌≤◌, ◌<◌, ◌+◌, ◌-◌, inl, inr, ℕ, suc, true, false, not, List, [], ◌∷◌, ◌++◌, filter, refl, ap, ap₂, sym, subst, arith, append_assoc}
use Rattle.std.specs.List.Sorted.{IsNonDecreasing, IsPermutation}
use Rattle.std.proofs.lemmas.List.Sorted.{list_any-IsPermutation}
use Rattle.std.proofs.lemmas.Bool.{cases_Bool}
use Rattle.std.proofs.lemmas.Bool.Decides.{nat_tests}
use Rattle.hrt_base.specs.declared.literal.Term.{Term}
use Rattle.pb_rows.specs.Terms.{IsRisingFrom, PlainRow, coef_sum, is_over, positive_part, weight_over}
use Rattle.pb_rows.specs.Rows.{HoldsAfter, IsWellFormedRow, weaken, weaken_all}
use Rattle.pb_rows.specs.declared.weakening.Weakened.{Weakened}
use Rattle.pb_rows.specs.Weakened.{IsWeakened, is_among, weakened_by, weight_among, without}
use Rattle.pb_rows.proofs.Order.{rising_down}
use Rattle.pb_rows.proofs.Changes.{row_of, weaken_holds, weaken_normal}

-- ---- one after another is at once

none_without : (ts : List Term) → without [] ts ≡ ts
none_without [] = refl
none_without (t ∷ ts) = ap (λ (us : List Term). t ∷ us) (none_without ts)

none_among : (ts : List Term) → weight_among [] ts ≡ 0
none_among [] = refl
none_among (t ∷ ts) = omega (arith, none_among ts)

one_more : (v : ℕ) (vs : List ℕ) (ts : List Term) →
    (without vs (filter (λ t. not (is_over v t)) ts) ≡ without (v ∷ vs) ts) × (weight_over v ts + weight_among vs (filter (λ t. not (is_over v t)) ts) ≡ weight_among (v ∷ vs) ts)
one_more v vs [] = (refl, refl)
one_more v vs (t ∷ ts) =
    let rest = one_more v vs ts in
    elim (cases_Bool (is_over v t)) [
      | inl e ↦ rw e (rest.0, omega (arith, rest.1))
      | inr e ↦ elim (cases_Bool (is_among vs t)) [
        | inl f ↦ rw (e, f) (rest.0, omega (arith, rest.1))
        | inr f ↦ rw (e, f) (ap (λ (us : List Term). t ∷ us) rest.0, omega (arith, rest.1))
      ]
    ]

pub at_once : (vs : List ℕ) (r : PlainRow) → weaken_all vs r ≡ weakened_by vs r
at_once [] r =
    let kept : r.degree ≡ r.degree - weight_among [] r.terms = omega (arith, none_among r.terms) in
    ap₂ row_of (sym (none_without r.terms)) kept
at_once (v ∷ vs) r =
    let more = one_more v vs r.terms in
    at_once vs (weaken v r) ∙ ap₂ row_of more.0 (omega (arith, more.1))

-- what one pass makes
pub made_at_once : (vs : List ℕ) (r : PlainRow) (read : List Term) (made : Weakened) (degree : ℕ) → read ≡ r.terms → IsWeakened vs read made → degree ≡ r.degree - made.gone → row_of made.terms.items degree ≡ weaken_all vs r
made_at_once vs r read made degree e w f =
    ap₂ row_of (w.terms_left ∙ ap (without vs) e) (f ∙ ap (λ n. r.degree - n) (w.gone ∙ ap (weight_among vs) e)) ∙ sym (at_once vs r)

-- ---- in any order

among-moved : (vs ws : List ℕ) (t : Term) → IsPermutation vs ws → is_among vs t ≡ is_among ws t
among-moved vs ws t h = list_any-IsPermutation (λ v. is_over v t) vs ws h

moved : (vs ws : List ℕ) → IsPermutation vs ws → (ts : List Term) → (without vs ts ≡ without ws ts) × (weight_among vs ts ≡ weight_among ws ts)
moved vs ws h [] = (refl, refl)
moved vs ws h (t ∷ ts) =
    let rest = moved vs ws h ts in
    rw (among-moved vs ws t h) (elim (cases_Bool (is_among ws t)) [
      | inl e ↦ rw e (rest.0, omega (arith, rest.1))
      | inr e ↦ rw e (ap (λ (us : List Term). t ∷ us) rest.0, omega (arith, rest.1))
    ])

-- in which order the variables come makes no difference
pub weaken_all-moved : (vs ws : List ℕ) (r : PlainRow) → IsPermutation vs ws → weaken_all vs r ≡ weaken_all ws r
weaken_all-moved vs ws r h =
    let same = moved vs ws h r.terms in
    at_once vs r ∙ ap₂ row_of same.0 (ap (λ n. r.degree - n) same.1) ∙ sym (at_once ws r)

-- ---- what stays

pub weaken_all-normal : (vs : List ℕ) (r : PlainRow) → IsWellFormedRow r → IsWellFormedRow (weaken_all vs r)
weaken_all-normal [] r h = h
weaken_all-normal (v ∷ vs) r h = weaken_all-normal vs (weaken v r) (weaken_normal v r.terms r.degree (r.degree - weight_over v r.terms) (omega arith) h)

all_hold : (vs : List ℕ) (r : PlainRow) → HoldsAfter r (weaken_all vs r)
all_hold [] r p h = h
all_hold (v ∷ vs) r p h = all_hold vs (weaken v r) p (weaken_holds p v r h)

pub weaken_all-sound : (vs : List ℕ) (r s : PlainRow) → s ≡ weaken_all vs r → HoldsAfter r s
weaken_all-sound vs r s e p h = rw e (all_hold vs r p h)

-- ---- one pass

tail_rises : (v : ℕ) (vs : List ℕ) → IsNonDecreasing (v ∷ vs) → IsNonDecreasing vs
tail_rises v vs h i j d le lt = h (suc i) (suc j) d (omega (arith, le)) (omega (arith, lt))

-- rising variables that begin above a term's are all others
above : (v : ℕ) (vs : List ℕ) (t : Term) → t.lit.var < v → IsNonDecreasing (v ∷ vs) → is_among (v ∷ vs) t ≡ false
above v [] t h r = grind (arith, nat_tests)
above v (w ∷ ws) t h r =
    let next : v ≤ w = r 0 1 0 (omega arith) (omega arith) in
    let rest = above w ws t (omega arith) (tail_rises v (w ∷ ws) r) in
    let here : is_over v t ≡ false = grind (arith, nat_tests) in
    rw here rest

-- a variable below those of all terms makes no difference
below : (v low : ℕ) (vs : List ℕ) (ts : List Term) → v < low → IsRisingFrom low ts → (without (v ∷ vs) ts ≡ without vs ts) × (weight_among (v ∷ vs) ts ≡ weight_among vs ts)
below v low vs [] h r = (refl, refl)
below v low vs (t ∷ ts) h r =
    let rest = below v (t.lit.var + 1) vs ts (omega (arith, r.0)) r.2 in
    let first = r.0 in
    let here : is_over v t ≡ false = grind (arith, nat_tests) in
    rw here (elim (cases_Bool (is_among vs t)) [
      | inl e ↦ rw e (rest.0, omega (arith, rest.1))
      | inr e ↦ rw e (ap (λ (us : List Term). t ∷ us) rest.0, omega (arith, rest.1))
    ])

pub among_le : (vs : List ℕ) (ts : List Term) → weight_among vs ts ≤ coef_sum ts
among_le vs [] = omega arith
among_le vs (t ∷ ts) = elim (cases_Bool (is_among vs t)) [
  | inl e ↦ rw e (omega (arith, among_le vs ts))
  | inr e ↦ rw e (omega (arith, among_le vs ts))
]

-- the pass, step by step: `kept` is written, `gone` taken off, `right` the variables and `left` the terms that are left
pub record IsWeakening (vars : List ℕ) (terms kept : List Term) (gone : ℕ) (right : List ℕ) (left : List Term) : Type 0 where
  pub keeps : kept ++ without right left ≡ without vars terms
  pub takes : gone + weight_among right left ≡ weight_among vars terms
  pub rises : IsRisingFrom 0 left
  pub vars_rise : IsNonDecreasing right

module _ (vars : List ℕ) (terms kept : List Term) (gone : ℕ) (right : List ℕ) (left : List Term) where
  pub passes_variable : (t : Term) (ts : List Term) (v : ℕ) (vs : List ℕ) → left ≡ t ∷ ts → right ≡ v ∷ vs → v < t.lit.var → IsWeakening vars terms kept gone right left → IsWeakening vars terms kept gone vs left
  passes_variable t ts v vs el er h w =
      let l : IsRisingFrom 0 (t ∷ ts) = subst (λ (x : List Term). IsRisingFrom 0 x) el w.rises in
      let b = below v t.lit.var vs (t ∷ ts) h (omega arith, l.1, l.2) in
      let r : IsNonDecreasing (v ∷ vs) = subst (λ (x : List ℕ). IsNonDecreasing x) er w.vars_rise in
      let e : without vs left ≡ without right left = rw (er, el) (sym b.0) in
      let f : weight_among vs left ≡ weight_among right left = rw (er, el) (sym b.1) in
      record {
        keeps = ap (λ (us : List Term). kept ++ us) e ∙ w.keeps;
        takes = ap (λ n. gone + n) f ∙ w.takes;
        rises = w.rises;
        vars_rise = tail_rises v vs r;
      }

  rising_rest : (t : Term) (ts : List Term) → left ≡ t ∷ ts → IsRisingFrom 0 left → IsRisingFrom 0 ts
  rising_rest t ts el r =
      let l : IsRisingFrom 0 (t ∷ ts) = subst (λ (x : List Term). IsRisingFrom 0 x) el r in
      rising_down 0 (t.lit.var + 1) ts (omega arith) l.2

  pub takes_term : (t : Term) (ts : List Term) (v : ℕ) (vs : List ℕ) → left ≡ t ∷ ts → right ≡ v ∷ vs → v ≡ t.lit.var → IsWeakening vars terms kept gone right left → IsWeakening vars terms kept (gone + positive_part t.coef) right ts
  takes_term t ts v vs el er h w =
      let here : is_over v t ≡ true = grind (arith, nat_tests) in
      let among : is_among right t ≡ true = rw (er, here) refl in
      let e : without right ts ≡ without right left = rw (el, among) refl in
      let f : positive_part t.coef + weight_among right ts ≡ weight_among right left = rw (el, among) refl in
      let takes = w.takes in
      record {
        keeps = ap (λ (us : List Term). kept ++ us) e ∙ w.keeps;
        takes = omega (arith, f, takes);
        rises = rising_rest t ts el w.rises;
        vars_rise = w.vars_rise;
      }

  keeps_term : (t : Term) (ts : List Term) → left ≡ t ∷ ts → is_among right t ≡ false → IsWeakening vars terms kept gone right left → IsWeakening vars terms (kept ++ t ∷ []) gone right ts
  keeps_term t ts el among w =
      let e : t ∷ without right ts ≡ without right left = rw (el, among) refl in
      let f : weight_among right ts ≡ weight_among right left = rw (el, among) (omega arith) in
      record {
        keeps = append_assoc kept (t ∷ []) (without right ts) ∙ ap (λ (us : List Term). kept ++ us) e ∙ w.keeps;
        takes = ap (λ n. gone + n) f ∙ w.takes;
        rises = rising_rest t ts el w.rises;
        vars_rise = w.vars_rise;
      }

  pub keeps_below : (t : Term) (ts : List Term) (v : ℕ) (vs : List ℕ) → left ≡ t ∷ ts → right ≡ v ∷ vs → t.lit.var < v → IsWeakening vars terms kept gone right left → IsWeakening vars terms (kept ++ t ∷ []) gone right ts
  keeps_below t ts v vs el er h w =
      let r : IsNonDecreasing (v ∷ vs) = subst (λ (x : List ℕ). IsNonDecreasing x) er w.vars_rise in
      keeps_term t ts el (rw er (above v vs t h r)) w

  pub keeps_last : (t : Term) (ts : List Term) → left ≡ t ∷ ts → right ≡ [] → IsWeakening vars terms kept gone right left → IsWeakening vars terms (kept ++ t ∷ []) gone right ts
  keeps_last t ts el er w = keeps_term t ts el (rw er refl) w
