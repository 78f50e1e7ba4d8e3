-- What operations on rows do to the sum of the coefficients of literals that aren't false.
use Rattle.std.proofs.Common.{◌≡◌, ◌⊎◌, ◌≤◌, ◌<◌, ◌+◌, ◌-◌, ◌*◌, ◌/◌, ◌%◌, ℕ, zero, suc, Bool, true, false, not, min, if◌then◌else◌, List, [], ◌∷◌, ◌++◌, map, refl, ◌∙◌, ap, subst, inl, inr, arith}
use Rattle.std.specs.Int.{div_ceil}
use Rattle.std.proofs.lemmas.Bool.{cases_Bool, cases_lt, cases_order}
use Rattle.std.proofs.lemmas.Grind.{div_ceil_times}
use Rattle.std.proofs.Math.Nat.{mul-le-mul_right}
use Rattle.hrt_base.specs.declared.literal.Lit.{Lit}
use Rattle.hrt_base.specs.declared.literal.Term.{Term}
use Rattle.pb_rows.specs.Terms.{PlainRow, coef_sum, divided, opposite_lit, scaled, positive_part}
use Rattle.pb_rows.specs.Rows.{IsWellFormedRow, add}
use Rattle.pb_rows.specs.Closure.{Literals, nonfalse_sum}
use Rattle.pb_rows.specs.Joined.{are_alike, lost, lost_all, lost_between, met, put, put_all, remains}
use Rattle.pb_rows.proofs.Forms.{merged_is}
use Rattle.pb_rows.proofs.Values.{put_above, put_at, put_below}
use Rattle.conflict_rows.proofs.Literals.{Each, opposite-opposite}

-- never both literals of a variable
abbrev pub IsConsistent : Literals → Type 0
IsConsistent set = (l : Lit) → set l ≡ true → set (opposite_lit l) ≡ false

-- ---- multiplication

pub open-scaled : (set : Literals) (k : ℕ) (ts : List Term) → nonfalse_sum set (map (scaled k) ts) ≡ nonfalse_sum set ts * k
open-scaled set k [] = omega arith
open-scaled set k (t ∷ ts) = elim (cases_Bool (set (opposite_lit t.lit))) [
  | inl e ↦ rw e (omega (arith, open-scaled set k ts))
  | inr e ↦ rw e (omega (arith, open-scaled set k ts))
]

-- ---- division

-- a multiple is divided as it is
pub exact : (n a : ℕ) → 0 < a → n % a ≡ 0 → div_ceil n a * a ≡ n
exact n a p e = by (div_ceil n a) (div_ceil_times n a p) (cases_order (div_ceil n a) (n / a))
  where
    by : (q : ℕ) → (n ≤ q * a) × (q * a < n + a) → (q ≡ n / a) ⊎ ((q < n / a) ⊎ (n / a < q)) → q * a ≡ n
    by q h (inl s) = rw s (omega arith)
    by q h (inr (inl s)) = let m : (q + 1) * a ≤ (n / a) * a = mul-le-mul_right a (omega arith) in omega arith
    by q h (inr (inr s)) = let m : (n / a + 1) * a ≤ q * a = mul-le-mul_right a (omega arith) in absurd (omega arith)

-- what isn't false is a multiple
abbrev pub IsMultiple : Literals → ℕ → Term → Type 0
IsMultiple set a t = set (opposite_lit t.lit) ≡ false → positive_part t.coef % a ≡ 0

pub open-divided : (set : Literals) (a : ℕ) (ts : List Term) → 0 < a → Each (IsMultiple set a) ts → nonfalse_sum set (map (divided a) ts) * a ≡ nonfalse_sum set ts
open-divided set a [] p h = omega arith
open-divided set a (t ∷ ts) p h = elim (cases_Bool (set (opposite_lit t.lit))) [
  | inl e ↦ rw e (omega (arith, open-divided set a ts p h.1))
  | inr e ↦ rw e (omega (arith, open-divided set a ts p h.1, exact (positive_part t.coef) a p (h.0 e)))
]

-- where the rest is below a, the slack after division is at most 0
pub divided_slack : (n d a : ℕ) → 0 < a → n * a < d + a → n ≤ div_ceil d a
divided_slack n d a p h = elim (cases_lt (div_ceil d a) n) [
  | inl q ↦ let m : (div_ceil d a + 1) * a ≤ n * a = mul-le-mul_right a (omega arith) in absurd (omega (arith, (div_ceil_times d a p).0))
  | inr q ↦ q
]

-- ---- sums

open-append : (set : Literals) (ts us : List Term) → nonfalse_sum set (ts ++ us) ≡ nonfalse_sum set ts + nonfalse_sum set us
open-append set [] us = omega arith
open-append set (t ∷ ts) us = omega (arith, open-append set ts us)

-- the coefficient, unless the literal is false
abbrev part : Literals → ℕ → Lit → ℕ
part set n l = if set (opposite_lit l) then 0 else n

open-remains : (set : Literals) (n : ℕ) (l : Lit) → nonfalse_sum set (remains n l) ≡ part set n l
open-remains set zero l = elim (cases_Bool (set (opposite_lit l))) [ inl e ↦ rw e refl | inr e ↦ rw e refl ]
open-remains set (suc n) l = omega arith

apart_step : (a b : Bool) (m n : ℕ) → (a ≡ true → b ≡ false) → ((if a then 0 else n - m) + (if b then 0 else m - n)) + min m n ≤ (if b then 0 else m) + (if a then 0 else n)
apart_step true true m n h = let no : true ≡ false = h refl in absurd (cc)
apart_step true false m n h = omega arith
apart_step false true m n h = omega arith
apart_step false false m n h = omega arith

alike_step : (b : Bool) (m n : ℕ) → (if b then 0 else m + n) + 0 ≡ (if b then 0 else m) + (if b then 0 else n)
alike_step true m n = omega arith
alike_step false m n = omega arith

signs_apart : (a b : Bool) → (if a then b else not b) ≡ false → a ≡ not b
signs_apart true true e = cc
signs_apart true false e = refl
signs_apart false true e = refl
signs_apart false false e = cc

signs_alike : (a b : Bool) → (if a then b else not b) ≡ true → a ≡ b
signs_alike true true e = refl
signs_alike true false e = cc
signs_alike false true e = cc
signs_alike false false e = refl

abbrev lit : ℕ → Bool → Lit
lit v n = record { var = v; neg = n }

met_open : (set : Literals) → IsConsistent set → (t u : Term) → t.lit.var ≡ u.lit.var →
    nonfalse_sum set (met t u) + lost_between t u ≤ nonfalse_sum set (t ∷ []) + nonfalse_sum set (u ∷ [])
met_open set c t u v = elim (cases_Bool (are_alike t u)) [
  | inl e ↦
      let same : t.lit ≡ u.lit = ap (λ (w : ℕ). lit w t.lit.neg) v ∙ ap (lit u.lit.var) (signs_alike t.lit.neg u.lit.neg e) in
      rw e (rw same (omega (arith, alike_step (set (opposite_lit u.lit)) (positive_part t.coef) (positive_part u.coef))))
  | inr e ↦
      let other : t.lit ≡ opposite_lit u.lit = ap (λ (w : ℕ). lit w t.lit.neg) v ∙ ap (lit u.lit.var) (signs_apart t.lit.neg u.lit.neg e) in
      let back : opposite_lit t.lit ≡ u.lit = ap opposite_lit other ∙ opposite-opposite u.lit in
      let x : ℕ = positive_part u.coef - positive_part t.coef in
      let y : ℕ = positive_part t.coef - positive_part u.coef in
      let apart : set (opposite_lit u.lit) ≡ true → set (opposite_lit t.lit) ≡ false =
      λ h. c t.lit (rw other h) in
      rw e (omega (
        arith,
        open-append set (remains x u.lit) (remains y t.lit),
        open-remains set x u.lit,
        open-remains set y t.lit,
        apart_step (set (opposite_lit u.lit)) (set (opposite_lit t.lit)) (positive_part t.coef) (positive_part u.coef) apart,
      ))
]

put_open : (set : Literals) → IsConsistent set → (t : Term) (us : List Term) → nonfalse_sum set (put t us) + lost t us ≤ nonfalse_sum set (t ∷ []) + nonfalse_sum set us
put_open set c t [] = omega arith
put_open set c t (u ∷ us) = elim (cases_order t.lit.var u.lit.var) [
  | inl e ↦ rw (put_at t u us e).0 (rw ((put_at t u us e).1, open-append set (met t u) us) (omega (arith, met_open set c t u e)))
  | inr (inl h) ↦ rw (put_below t u us h).0 (rw (put_below t u us h).1 (omega arith))
  | inr (inr h) ↦ rw (put_above t u us h).0 (rw (put_above t u us h).1 (omega (arith, put_open set c t us)))
]

put_all_open : (set : Literals) → IsConsistent set → (us ts : List Term) → nonfalse_sum set (put_all us ts) + lost_all us ts ≤ nonfalse_sum set us + nonfalse_sum set ts
put_all_open set c us [] = omega arith
put_all_open set c us (t ∷ ts) = omega (arith, put_all_open set c (put t us) ts, put_open set c t us)

-- the slack of a sum is at most the sum of the slacks
pub add_slack : (set : Literals) → IsConsistent set → (a b : PlainRow) → IsWellFormedRow a → IsWellFormedRow b →
    nonfalse_sum set (add a b).terms + (a.degree + b.degree) ≤ (nonfalse_sum set a.terms + nonfalse_sum set b.terms) + (add a b).degree
add_slack set c a b m n =
    subst (λ (s : PlainRow). nonfalse_sum set s.terms + (a.degree + b.degree) ≤ (nonfalse_sum set a.terms + nonfalse_sum set b.terms) + s.degree) (merged_is a b m n)
    (omega (arith, put_all_open set c a.terms b.terms))

-- ---- two sets

-- the second set holds the opposite of each literal whose opposite the first holds
abbrev pub IsFalseToo : Literals → Literals → Term → Type 0
IsFalseToo now before t = now (opposite_lit t.lit) ≡ true → before (opposite_lit t.lit) ≡ true

open_step : (a b : Bool) (w m n : ℕ) → (a ≡ true → b ≡ true) → m ≤ n → (if b then 0 else w) + m ≤ (if a then 0 else w) + n
open_step true true w m n h k = omega arith
open_step true false w m n h k = let no : false ≡ true = h refl in absurd (cc)
open_step false true w m n h k = omega arith
open_step false false w m n h k = omega arith

-- the more is false, the less is open
pub open-le : (now before : Literals) (ts : List Term) → Each (IsFalseToo now before) ts → nonfalse_sum before ts ≤ nonfalse_sum now ts
open-le now before [] h = omega arith
open-le now before (t ∷ ts) h = open_step (now (opposite_lit t.lit)) (before (opposite_lit t.lit)) (positive_part t.coef) (nonfalse_sum before ts) (nonfalse_sum now ts) h.0 (open-le now before ts h.1)

all_open_step : (a : Bool) (w m n : ℕ) → a ≡ false → m ≡ n → (if a then 0 else w) + m ≡ w + n
all_open_step true w m n h k = cc
all_open_step false w m n h k = omega arith

-- where nothing is false, all is open
pub open-all : (set : Literals) (ts : List Term) → Each (λ t. set (opposite_lit t.lit) ≡ false) ts → nonfalse_sum set ts ≡ coef_sum ts
open-all set [] h = refl
open-all set (t ∷ ts) h = all_open_step (set (opposite_lit t.lit)) (positive_part t.coef) (nonfalse_sum set ts) (coef_sum ts) h.0 (open-all set ts h.1)
