-- Terms that come in order are put at the end.
use Rattle.std.proofs.Common.{◌≡◌, ◌∙◌, ◌≤◌, ◌<◌, ◌+◌, ◌^◌, inl, inr, ℕ, zero, suc, List, [], ◌∷◌, ◌++◌, refl, ap, sym, subst, arith, append_assoc, length, get_or}
use Rattle.std.specs.List.{AllByRecursion as ByRecursion}
use Rattle.std.specs.List.Sorted.{IsNonDecreasingBy, IsPermutation}
use Rattle.std.proofs.lemmas.List.Elements.{All-from_recursion, recursion_from_All}
use Rattle.std.proofs.lemmas.List.Sorted.{All-permutation}
use Rattle.std.proofs.lemmas.List.{append-nil}
use Rattle.std.proofs.lemmas.Bool.{cases_order}
use Rattle.hrt_base.specs.declared.literal.Lit.{Lit}
use Rattle.hrt_base.specs.declared.literal.Term.{Term}
use Rattle.pb_rows.specs.Terms.{IsPositive, IsRisingFrom, coef_sum, positive_part}
use Rattle.pb_rows.specs.Joined.{AreFrom, AreUpTo, IsSortedCopy, IsSortedFrom, lost, lost_all, lost_between, met, put, put_all, remains}
use Rattle.pb_rows.proofs.Order.{joined_permuted, met_is, put_rising, put_sum}
use Rattle.pb_rows.proofs.Sums.{coef_sum-permuted}
use Rattle.pb_rows.proofs.Values.{put_above, put_at, put_below}

-- ---- order

tail_sorted : (t : Term) (ts : List Term) → IsNonDecreasingBy (λ (t : Term). t.lit.var) (t ∷ ts) → IsNonDecreasingBy (λ (t : Term). t.lit.var) ts
tail_sorted t ts h i j d le lt = h (suc i) (suc j) d (omega (arith, le)) (omega (arith, lt))

pub sorted_from : (low : ℕ) (ts : List Term) → ((d : Term) → 0 < length ts → low ≤ (get_or ts 0 d).lit.var) → IsNonDecreasingBy (λ (t : Term). t.lit.var) ts → ByRecursion (λ (t : Term). IsPositive t.coef) ts → IsSortedFrom low ts
sorted_from low [] first h p = tt
sorted_from low (t ∷ ts) first h p = (
  first t (omega arith),
  p.0,
  sorted_from t.lit.var ts (λ d lt. h 0 1 d (omega arith) (omega (arith, lt))) (tail_sorted t ts h) p.1,
)

up_to_more : (low high : ℕ) (ts : List Term) → low ≤ high → AreUpTo low ts → AreUpTo high ts
up_to_more low high [] h a = tt
up_to_more low high (t ∷ ts) h a = (omega (arith, a.0, h), up_to_more low high ts h a.1)

up_to_append : (high : ℕ) (ts us : List Term) → AreUpTo high ts → AreUpTo high us → AreUpTo high (ts ++ us)
up_to_append high [] us a b = b
up_to_append high (t ∷ ts) us a b = (a.0, up_to_append high ts us a.1 b)

-- ---- where a term goes

-- past all that stands below it
put_past : (t : Term) (xs us : List Term) → ByRecursion (λ (x : Term). x.lit.var < t.lit.var) xs → (put t (xs ++ us) ≡ xs ++ put t us) × (lost t (xs ++ us) ≡ lost t us)
put_past t [] us a = (refl, refl)
put_past t (x ∷ xs) us a =
    let here = put_above t x (xs ++ us) a.0 in
    let rest = put_past t xs us a.1 in
    (here.0 ∙ ap (λ (ts : List Term). x ∷ ts) rest.0, here.1 ∙ rest.1)

-- all but the last of a rising list stand below the last
below_last : (low : ℕ) (xs : List Term) (u : Term) → IsRisingFrom low (xs ++ u ∷ []) → ByRecursion (λ (x : Term). x.lit.var < u.lit.var) xs × (low ≤ u.lit.var)
below_last low [] u r = (tt, r.0)
below_last low (x ∷ xs) u r =
    let rest = below_last (x.lit.var + 1) xs u r.2 in
    ((omega (arith, rest.1), rest.0), omega (arith, r.0, rest.1))

below_more : (v w : ℕ) (xs : List Term) → v ≤ w → ByRecursion (λ (x : Term). x.lit.var < v) xs → ByRecursion (λ (x : Term). x.lit.var < w) xs
below_more v w [] h a = tt
below_more v w (x ∷ xs) h a = (omega (arith, a.0, h), below_more v w xs h a.1)

-- the last one meets it
pub meets_last : (t u : Term) (us xs : List Term) → us ≡ xs ++ u ∷ [] → IsRisingFrom 0 us → t.lit.var ≡ u.lit.var → (put t us ≡ xs ++ met t u) × (lost t us ≡ lost_between t u)
meets_last t u us xs e r v =
    let below = (below_last 0 xs u (subst (λ (ts : List Term). IsRisingFrom 0 ts) e r)).0 in
    let past = put_past t xs (u ∷ []) (below_more u.lit.var t.lit.var xs (omega (arith, v)) below) in
    let here = put_at t u [] v in
    rw e (past.0 ∙ ap (λ (ts : List Term). xs ++ ts) (here.0 ∙ append-nil (met t u)), past.1 ∙ here.1)

-- it comes after the last one
pub follows_last : (t u : Term) (us xs : List Term) → us ≡ xs ++ u ∷ [] → IsRisingFrom 0 us → u.lit.var < t.lit.var → (put t us ≡ us ++ t ∷ []) × (lost t us ≡ 0)
follows_last t u us xs e r v =
    let below = (below_last 0 xs u (subst (λ (ts : List Term). IsRisingFrom 0 ts) e r)).0 in
    let past = put_past t xs (u ∷ []) (below_more u.lit.var t.lit.var xs (omega (arith, v)) below) in
    let here = put_above t u [] v in
    rw e (past.0 ∙ ap (λ (ts : List Term). xs ++ ts) here.0 ∙ sym (append_assoc xs (u ∷ []) (t ∷ [])), past.1 ∙ here.1)

-- ---- the loop

pub record IsJoining (ts out : List Term) (gone : ℕ) (left : List Term) : Type 0 where
  pub terms : put_all out left ≡ put_all [] ts
  pub losses : gone + lost_all out left ≡ lost_all [] ts
  pub rising : IsRisingFrom 0 out
  pub low : ℕ
  pub out_up_to : AreUpTo low out
  pub left_from : IsSortedFrom low left
  pub fits : coef_sum out + coef_sum left ≤ 2 ^ 120

remains_up_to : (high n : ℕ) (l : Lit) → l.var ≤ high → AreUpTo high (remains n l)
remains_up_to high zero l h = tt
remains_up_to high (suc n) l h = (h, tt)

met_up_to : (high : ℕ) (t u : Term) → t.lit.var ≡ u.lit.var → IsPositive t.coef → u.lit.var ≤ high → AreUpTo high (met t u)
met_up_to high t u e p h =
    let m = met_is t u e p in
    rw m.is (remains_up_to high m.size m.lit (omega (arith, m.var, h)))

put_up_to : (high : ℕ) (t : Term) (us : List Term) → IsPositive t.coef → t.lit.var ≤ high → AreUpTo high us → AreUpTo high (put t us)
put_up_to high t [] p h a = (h, tt)
put_up_to high t (u ∷ us) p h a = elim (cases_order t.lit.var u.lit.var) [
  | inl e ↦ rw (put_at t u us e).0 (up_to_append high (met t u) us (met_up_to high t u e p a.0) a.1)
  | inr (inl less) ↦ rw (put_below t u us less).0 (h, a)
  | inr (inr more) ↦ rw (put_above t u us more).0 (a.0, put_up_to high t us p h a.1)
]

pub joins_next : (ts out : List Term) (gone : ℕ) (left : List Term) (t : Term) (rest : List Term) → left ≡ t ∷ rest → IsJoining ts out gone left → IsJoining ts (put t out) (gone + lost t out) rest
joins_next ts out gone left t rest e j =
    let s : IsSortedFrom j.low (t ∷ rest) = subst (λ (xs : List Term). IsSortedFrom j.low xs) e j.left_from in
    let x : coef_sum left ≡ positive_part t.coef + coef_sum rest = rw e refl in
    record {
      terms = sym (rw e refl) ∙ j.terms;
      losses = omega (arith, j.losses, ap (lost_all out) e);
      rising = put_rising 0 t out (omega arith) s.1 j.rising;
      low = t.lit.var;
      out_up_to = put_up_to t.lit.var t out s.1 (omega arith) (up_to_more j.low t.lit.var out s.0 j.out_up_to);
      left_from = s.2;
      fits = omega (arith, j.fits, x, put_sum t out s.1);
    }

-- what the last of the list is, under the loop's invariant
pub next_is : (ts out : List Term) (gone : ℕ) (left : List Term) (t : Term) (rest : List Term) → left ≡ t ∷ rest → IsJoining ts out gone left → AreUpTo t.lit.var out × IsPositive t.coef × (coef_sum out + positive_part t.coef ≤ 2 ^ 120)
next_is ts out gone left t rest e j =
    let s : IsSortedFrom j.low (t ∷ rest) = subst (λ (xs : List Term). IsSortedFrom j.low xs) e j.left_from in
    let x : coef_sum left ≡ positive_part t.coef + coef_sum rest = rw e refl in
    (up_to_more j.low t.lit.var out s.0 j.out_up_to, s.1, omega (arith, j.fits, x))

-- ---- a sorted copy

positive_from : (ts : List Term) → ByRecursion (λ (t : Term). IsPositive t.coef) ts → AreFrom 0 ts
positive_from [] p = tt
positive_from (t ∷ ts) p = ((omega arith, p.0), positive_from ts p.1)

from_positive : (ts : List Term) → AreFrom 0 ts → ByRecursion (λ (t : Term). IsPositive t.coef) ts
from_positive [] a = tt
from_positive (t ∷ ts) a = (a.0.1, from_positive ts a.1)

pub sorted_copy : (ts us : List Term) → AreFrom 0 ts → IsPermutation ts us → IsNonDecreasingBy (λ (t : Term). t.lit.var) us → IsSortedCopy ts us
sorted_copy ts us a h s =
    let P : Term → Type 0 = λ (t : Term). IsPositive t.coef in
    let p : ByRecursion P us = recursion_from_All P us (All-permutation P ts us h (All-from_recursion P ts (from_positive ts a))) in
    let same = joined_permuted ts us a (positive_from us p) h in
    record { sorted = sorted_from 0 us (λ d lt. omega arith) s p; terms = same.0; losses = same.1; sum = coef_sum-permuted ts us h }

-- ---- the last one

pub record IsLast (u : Term) (us : List Term) (high : ℕ) : Type 0 where
  pub positive : IsPositive u.coef
  pub up_to : u.lit.var ≤ high
  pub within : positive_part u.coef ≤ coef_sum us

last_of : (high low : ℕ) (xs : List Term) (u : Term) → IsRisingFrom low (xs ++ u ∷ []) → AreUpTo high (xs ++ u ∷ []) → IsLast u (xs ++ u ∷ []) high
last_of high low [] u r a = record { positive = r.1; up_to = a.0; within = omega arith }
last_of high low (x ∷ xs) u r a =
    let rest = last_of high (x.lit.var + 1) xs u r.2 a.1 in
    record { positive = rest.positive; up_to = rest.up_to; within = omega (arith, rest.within) }

pub last_is : (high : ℕ) (us xs : List Term) (u : Term) → us ≡ xs ++ u ∷ [] → IsRisingFrom 0 us → AreUpTo high us → IsLast u us high
last_is high us xs u e r a =
    let r' : IsRisingFrom 0 (xs ++ u ∷ []) = subst (λ (ts : List Term). IsRisingFrom 0 ts) e r in
    let a' : AreUpTo high (xs ++ u ∷ []) = subst (λ (ts : List Term). AreUpTo high ts) e a in
    rw e (last_of high 0 xs u r' a')
