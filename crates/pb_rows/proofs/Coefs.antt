-- A row by its coefficients: the terms of the variables below a number, each with its net coefficient.
use Rattle.std.proofs.Common.{Contains, subst, ◌≡◌, ℕ, zero, suc, ◌+◌, ◌<◌, ◌≤◌, Bool, true, false, ◌==◌, List, [], ◌∷◌, ◌++◌, if◌then◌else◌, ℤ, pos, negsuc, ◌+ℤ◌, ◌-ℤ◌, neg_ℤ, refl, sym, ap, ap₂, ◌∙◌, inl, inr, arith}
use Rattle.std.proofs.lemmas.Int.{ints}
use Rattle.std.proofs.lemmas.Bool.{cases_eq, cases_lt, eq-eqb, ne_eqb}
use Rattle.std.proofs.lemmas.List.{append-nil}
use Rattle.std.proofs.lemmas.List.Elements.{Contains-append_left, Contains-append_right}
use Rattle.hrt_base.specs.declared.literal.Lit.{Lit}
use Rattle.hrt_base.specs.declared.literal.Term.{Term}
use Rattle.pb_rows.specs.Terms.{PlainRow, is_over, weighing, positive_part}
use Rattle.pb_rows.specs.Normal.{gained, joined, negative_part, net, net_term, normal_form, on_opposites, var_bound}
use Rattle.pb_rows.specs.Rows.{add}
use Rattle.pb_rows.specs.Closure.{Literals, nonfalse_sum}

-- ---- terms and sums by variables below n

abbrev pub coef_terms : ℕ → (ℕ → ℤ) → List Term
coef_terms zero s = []
coef_terms (suc v) s = coef_terms v s ++ net_term v (s v)

abbrev pub sum_below : ℕ → (ℕ → ℕ) → ℕ
sum_below zero f = 0
sum_below (suc v) f = sum_below v f + f v

-- what the degree gains from negative coefficients
abbrev pub minus_sum : ℕ → (ℕ → ℤ) → ℕ
minus_sum n s = sum_below n (λ v. negative_part (s v))

pub sum_below-same : (n : ℕ) (f g : ℕ → ℕ) → ((v : ℕ) → v < n → f v ≡ g v) → sum_below n f ≡ sum_below n g
sum_below-same zero f g h = refl
sum_below-same (suc n) f g h = ap₂ ◌+◌ (sum_below-same n f g (λ v l. h v (omega arith))) (h n (omega arith))

pub coef_terms-same : (n : ℕ) (s t : ℕ → ℤ) → ((v : ℕ) → v < n → s v ≡ t v) → coef_terms n s ≡ coef_terms n t
coef_terms-same zero s t h = refl
coef_terms-same (suc n) s t h = ap₂ (λ (us vs : List Term). us ++ vs) (coef_terms-same n s t (λ v l. h v (omega arith))) (ap (net_term n) (h n (omega arith)))

joined-coefs : (n : ℕ) (ts : List Term) → joined n ts ≡ coef_terms n (λ v. net v ts)
joined-coefs zero ts = refl
joined-coefs (suc n) ts = ap (λ us. us ++ net_term n (net n ts)) (joined-coefs n ts)

gained-coefs : (n : ℕ) (ts : List Term) → gained n ts ≡ minus_sum n (λ v. net v ts)
gained-coefs zero ts = refl
gained-coefs (suc n) ts = ap (λ k. k + negative_part (net n ts)) (gained-coefs n ts)

-- ---- past the variables that occur

skipped : (b : Bool) (z s : ℤ) → b ≡ false → s ≡ pos 0 → (if b then z else pos 0) +ℤ s ≡ pos 0
skipped true z s e h = absurd (cc)
skipped false z s e h = omega (arith, ints)

pub net-past : (v : ℕ) (ts : List Term) → var_bound ts ≤ v → net v ts ≡ pos 0
net-past v [] h = refl
net-past v (t ∷ ts) h = skipped (is_over v t) _ (net v ts) (ne_eqb t.lit.var v (λ e. omega arith)) (net-past v ts (omega arith))

terms-past : (n m : ℕ) (s : ℕ → ℤ) → n ≤ m → ((v : ℕ) → n ≤ v → s v ≡ pos 0) → coef_terms m s ≡ coef_terms n s
terms-past n zero s h z = let e : zero ≡ n = omega arith in ap (λ k. coef_terms k s) e
terms-past n (suc m) s h z = elim (cases_lt m n) [
  | inl l ↦ let e : suc m ≡ n = omega arith in ap (λ k. coef_terms k s) e
  | inr l ↦ ap (λ y. coef_terms m s ++ net_term m y) (z m l) ∙ append-nil (coef_terms m s) ∙ terms-past n m s l z
]

sum-past : (n m : ℕ) (f : ℕ → ℕ) → n ≤ m → ((v : ℕ) → n ≤ v → f v ≡ 0) → sum_below m f ≡ sum_below n f
sum-past n zero f h z = let e : zero ≡ n = omega arith in ap (λ k. sum_below k f) e
sum-past n (suc m) f h z = elim (cases_lt m n) [
  | inl l ↦ let e : suc m ≡ n = omega arith in ap (λ k. sum_below k f) e
  | inr l ↦ let e = sum-past n m f l z in omega (arith, z m l)
]

-- ---- a normal form

-- a row with these nets, over the variables below n
abbrev pub coef_row : ℕ → (ℕ → ℤ) → ℕ → PlainRow
coef_row n s d = record { terms = coef_terms n s; degree = d }

pub normal_form-coefs : (n : ℕ) (s : ℕ → ℤ) (ts : List Term) (at_least : ℤ) → var_bound ts ≤ n → ((v : ℕ) → v < n → net v ts ≡ s v) →
    normal_form ts at_least ≡ coef_row n s (positive_part ((at_least -ℤ on_opposites ts) +ℤ pos (minus_sum n s)))
normal_form-coefs n s ts at_least h e =
    let b : ℕ = var_bound ts in
    let terms : joined b ts ≡ coef_terms n s =
    joined-coefs b ts ∙ sym (terms-past b n (λ v. net v ts) h (λ v l. net-past v ts l)) ∙ coef_terms-same n (λ v. net v ts) s e in
    let gain : gained b ts ≡ minus_sum n s =
    gained-coefs b ts ∙ sym (sum-past b n (λ v. negative_part (net v ts)) h (λ v l. ap negative_part (net-past v ts l)))
    ∙ sum_below-same n (λ v. negative_part (net v ts)) (λ v. negative_part (s v)) (λ v l. ap negative_part (e v l)) in
    ap₂ (λ (us : List Term) (d : ℕ). record { terms = us; degree = d }) terms (ap (λ k. positive_part ((at_least -ℤ on_opposites ts) +ℤ pos k)) gain)

-- ---- nets of lists that are joined, and of such terms

regroup : (a b c : ℤ) → a +ℤ (b +ℤ c) ≡ (a +ℤ b) +ℤ c
regroup a b c = omega (arith, ints)

left_zero : (a : ℤ) → a ≡ pos 0 +ℤ a
left_zero a = omega (arith, ints)

right_zero : (a : ℤ) → a +ℤ pos 0 ≡ a
right_zero a = omega (arith, ints)

abbrev on_var : ℕ → Term → ℤ
on_var v t = if is_over v t then (if t.lit.neg then neg_ℤ t.coef else t.coef) else pos 0

abbrev on_opposite : Term → ℤ
on_opposite t = if t.lit.neg then t.coef else pos 0

pub net-append : (v : ℕ) (ts us : List Term) → net v (ts ++ us) ≡ net v ts +ℤ net v us
net-append v [] us = left_zero (net v us)
net-append v (t ∷ ts) us = ap (λ z. on_var v t +ℤ z) (net-append v ts us) ∙ regroup (on_var v t) (net v ts) (net v us)

pub on_opposites-append : (ts us : List Term) → on_opposites (ts ++ us) ≡ on_opposites ts +ℤ on_opposites us
on_opposites-append [] us = left_zero (on_opposites us)
on_opposites-append (t ∷ ts) us = ap (λ z. on_opposite t +ℤ z) (on_opposites-append ts us) ∙ regroup (on_opposite t) (on_opposites ts) (on_opposites us)

pub var_bound-append : (ts us : List Term) (n : ℕ) → var_bound ts ≤ n → var_bound us ≤ n → var_bound (ts ++ us) ≤ n
var_bound-append [] us n h k = k
var_bound-append (t ∷ ts) us n h k = let r = var_bound-append ts us n (omega arith) k in omega arith

picked : (b : Bool) (z : ℤ) → b ≡ true → (if b then z else pos 0) +ℤ pos 0 ≡ z
picked true z e = right_zero z
picked false z e = absurd (cc)

term_net-here : (v w : ℕ) (z : ℤ) → w ≡ v → net v (net_term w z) ≡ z
term_net-here v w (pos zero) e = refl
term_net-here v w (pos (suc a)) e = picked (w == v) (pos (suc a)) (eq-eqb w v e)
term_net-here v w (negsuc a) e = picked (w == v) (negsuc a) (eq-eqb w v e)

term_net-other : (v w : ℕ) (z : ℤ) → (w ≡ v → ⊥) → net v (net_term w z) ≡ pos 0
term_net-other v w (pos zero) e = refl
term_net-other v w (pos (suc a)) e = skipped (w == v) _ (pos 0) (ne_eqb w v e) refl
term_net-other v w (negsuc a) e = skipped (w == v) _ (pos 0) (ne_eqb w v e) refl

pub net-coefs_past : (v n : ℕ) (s : ℕ → ℤ) → n ≤ v → net v (coef_terms n s) ≡ pos 0
net-coefs_past v zero s h = refl
net-coefs_past v (suc n) s h = net-append v (coef_terms n s) (net_term n (s n)) ∙ ap₂ ◌+ℤ◌ (net-coefs_past v n s (omega arith)) (term_net-other v n (s n) (λ e. omega arith))

pub net-coefs : (v n : ℕ) (s : ℕ → ℤ) → v < n → net v (coef_terms n s) ≡ s v
net-coefs v zero s h = absurd (omega arith)
net-coefs v (suc n) s h = net-append v (coef_terms n s) (net_term n (s n)) ∙ elim (cases_eq n v) [
  | inl e ↦ ap₂ ◌+ℤ◌ (net-coefs_past v n s (omega arith)) (term_net-here v n (s n) e) ∙ sym (left_zero (s n)) ∙ ap s e
  | inr e ↦ ap₂ ◌+ℤ◌ (net-coefs v n s (omega arith)) (term_net-other v n (s n) e) ∙ right_zero (s v)
]

term_opposites : (v : ℕ) (z : ℤ) → on_opposites (net_term v z) ≡ pos (negative_part z)
term_opposites v (pos zero) = refl
term_opposites v (pos (suc a)) = refl
term_opposites v (negsuc a) = omega (arith, ints)

pub on_opposites-coefs : (n : ℕ) (s : ℕ → ℤ) → on_opposites (coef_terms n s) ≡ pos (minus_sum n s)
on_opposites-coefs zero s = refl
on_opposites-coefs (suc n) s =
    on_opposites-append (coef_terms n s) (net_term n (s n)) ∙ ap₂ ◌+ℤ◌ (on_opposites-coefs n s) (term_opposites n (s n)) ∙ omega (arith, ints)

term_bound : (v : ℕ) (z : ℤ) → var_bound (net_term v z) ≤ suc v
term_bound v (pos zero) = omega arith
term_bound v (pos (suc a)) = omega arith
term_bound v (negsuc a) = omega arith

pub var_bound-coefs : (n : ℕ) (s : ℕ → ℤ) → var_bound (coef_terms n s) ≤ n
var_bound-coefs zero s = omega arith
var_bound-coefs (suc n) s = let r = var_bound-coefs n s in var_bound-append (coef_terms n s) (net_term n (s n)) (suc n) (omega arith) (term_bound n (s n))

-- ---- sums

-- the nets of terms: their coefficients on variables below n, which are all, and what stands on opposites
pub record HasNets (n : ℕ) (t : ℕ → ℤ) (k : ℕ) (ts : List Term) : Type 0 where
  pub bound : var_bound ts ≤ n
  pub nets : (v : ℕ) → v < n → net v ts ≡ t v
  pub opposites : on_opposites ts ≡ pos k

pub coefs-nets : (n : ℕ) (s : ℕ → ℤ) → HasNets n s (minus_sum n s) (coef_terms n s)
coefs-nets n s = record { bound = var_bound-coefs n s; nets = λ v l. net-coefs v n s l; opposites = on_opposites-coefs n s }

-- a sum with a row that has these nets
pub add-coefs : (n : ℕ) (s t u : ℕ → ℤ) (d e k m : ℕ) (a b : PlainRow) → a ≡ coef_row n s d → HasNets n t k b.terms → b.degree ≡ e → ((v : ℕ) → v < n → s v +ℤ t v ≡ u v) →
    (d + e) + minus_sum n u ≡ m + (minus_sum n s + k) → add a b ≡ coef_row n u m
add-coefs n s t u d e k m a b is has deg sums total =
    let at : a.terms ≡ coef_terms n s = ap (λ (r : PlainRow). r.terms) is in
    let ad : a.degree ≡ d = ap (λ (r : PlainRow). r.degree) is in
    let opposites : on_opposites (a.terms ++ b.terms) ≡ pos (minus_sum n s) +ℤ pos k =
    on_opposites-append a.terms b.terms ∙ ap₂ ◌+ℤ◌ (ap on_opposites at ∙ on_opposites-coefs n s) has.opposites in
    let bound : var_bound (a.terms ++ b.terms) ≤ n =
    let first : var_bound a.terms ≤ n = rw at (var_bound-coefs n s) in var_bound-append a.terms b.terms n first has.bound in
    let degree : (pos (a.degree + b.degree) -ℤ on_opposites (a.terms ++ b.terms)) +ℤ pos (minus_sum n u) ≡ pos m = omega (arith, ints) in
    normal_form-coefs n u (a.terms ++ b.terms) (pos (a.degree + b.degree)) bound
    (λ v l. net-append v a.terms b.terms ∙ ap₂ ◌+ℤ◌ (ap (net v) at ∙ net-coefs v n s l) (has.nets v l) ∙ sums v l)
    ∙ ap (λ z. coef_row n u (positive_part z)) degree

-- ---- sets of literals

abbrev pub lit : Bool → ℕ → Lit
lit neg v = record { var = v; neg = neg }

-- a variable's share of the coefficients whose literals aren't false
abbrev pub open_share : Literals → ℕ → ℤ → ℕ
open_share set v (pos a) = if set (lit true v) then 0 else a
open_share set v (negsuc a) = if set (lit false v) then 0 else suc a

no_share : (b : Bool) → ◌≡◌ {A = ℕ} 0 (if b then 0 else 0)
no_share true = refl
no_share false = refl

nonfalse-append : (set : Literals) (ts us : List Term) → nonfalse_sum set (ts ++ us) ≡ nonfalse_sum set ts + nonfalse_sum set us
nonfalse-append set [] us = omega arith
nonfalse-append set (t ∷ ts) us = let r = nonfalse-append set ts us in omega arith

term_share : (set : Literals) (v : ℕ) (z : ℤ) → nonfalse_sum set (net_term v z) ≡ open_share set v z
term_share set v (pos zero) = no_share (set (lit true v))
term_share set v (pos (suc a)) = omega arith
term_share set v (negsuc a) = omega arith

pub nonfalse-coefs : (set : Literals) (n : ℕ) (s : ℕ → ℤ) → nonfalse_sum set (coef_terms n s) ≡ sum_below n (λ v. open_share set v (s v))
nonfalse-coefs set zero s = refl
nonfalse-coefs set (suc n) s = nonfalse-append set (coef_terms n s) (net_term n (s n)) ∙ ap₂ ◌+◌ (nonfalse-coefs set n s) (term_share set n (s n))

-- a variable's term
pub term_in : (n : ℕ) (s : ℕ → ℤ) (v a : ℕ) (neg : Bool) → v < n → Contains (net_term v (s v)) (weighing (suc a) (lit neg v)) → Contains (coef_terms n s) (weighing (suc a) (lit neg v))
term_in zero s v a neg h c = absurd (omega arith)
term_in (suc n) s v a neg h c = elim (cases_eq n v) [
  | inl e ↦ Contains-append_right (coef_terms n s) (net_term n (s n)) (weighing (suc a) (lit neg v))
      (subst (λ (k : ℕ). Contains (net_term k (s k)) (weighing (suc a) (lit neg v))) (sym e) c)
  | inr e ↦ Contains-append_left (coef_terms n s) (net_term n (s n)) (weighing (suc a) (lit neg v)) (term_in n s v a neg (omega arith) c)
]

-- ---- sums that differ

pub sum_below-le : (n : ℕ) (f g : ℕ → ℕ) → ((v : ℕ) → v < n → f v ≤ g v) → sum_below n f ≤ sum_below n g
sum_below-le zero f g h = omega arith
sum_below-le (suc n) f g h = let r = sum_below-le n f g (λ v l. h v (omega arith)) in omega (arith, h n (omega arith))

pub sum_below-add : (n : ℕ) (f g : ℕ → ℕ) → sum_below n (λ v. f v + g v) ≡ sum_below n f + sum_below n g
sum_below-add zero f g = refl
sum_below-add (suc n) f g = let r = sum_below-add n f g in omega arith

at_one : (b : Bool) (z k : ℕ) → z ≡ 0 → b ≡ true → z + (if b then k else 0) ≡ k
at_one true z k e f = omega arith
at_one false z k e f = absurd (cc)

at_none : (b : Bool) (z k w : ℕ) → z ≡ w → b ≡ false → z + (if b then k else 0) ≡ w
at_none true z k w e f = absurd (cc)
at_none false z k w e f = omega arith

one_past : (n w k : ℕ) → n ≤ w → sum_below n (λ v. if v == w then k else 0) ≡ 0
one_past zero w k h = refl
one_past (suc n) w k h = at_none (n == w) (sum_below n (λ v. if v == w then k else 0)) k 0 (one_past n w k (omega arith)) (ne_eqb n w (λ e. omega arith))

-- a sum with one part
pub sum_below-one : (n w k : ℕ) → w < n → sum_below n (λ v. if v == w then k else 0) ≡ k
sum_below-one zero w k h = absurd (omega arith)
sum_below-one (suc n) w k h = elim (cases_eq n w) [
  | inl e ↦ at_one (n == w) (sum_below n (λ v. if v == w then k else 0)) k (one_past n w k (omega arith)) (eq-eqb n w e)
  | inr e ↦ at_none (n == w) (sum_below n (λ v. if v == w then k else 0)) k k (sum_below-one n w k (omega arith)) (ne_eqb n w e)
]

-- where one part is smaller by k, the sum is
pub sum_below-less : (n w k : ℕ) (f g : ℕ → ℕ) → w < n → ((v : ℕ) → v < n → f v + (if v == w then k else 0) ≤ g v) → sum_below n f + k ≤ sum_below n g
sum_below-less n w k f g l h =
    omega (arith, sum_below-le n (λ v. f v + (if v == w then k else 0)) g h, sum_below-add n f (λ v. if v == w then k else 0), sum_below-one n w k l)
