-- Joined terms rise, and rising terms are determined by their values at points.
use Rattle.std.proofs.Common.{◌≡◌, ◌∙◌, ◌≤◌, ◌<◌, ◌+◌, ◌-◌, inl, inr, ℕ, zero, suc, ℤ, pos, negsuc, Bool, true, false, not, ◌==◌, if◌then◌else◌, List, [], ◌∷◌, ◌++◌, refl, ap, ap₂, sym, arith, length, get_or}
use Rattle.std.specs.List.{All, AllByRecursion as ByRecursion}
use Rattle.std.specs.List.Sorted.{IsPermutation}
use Rattle.std.proofs.lemmas.Bool.{cases_Bool, cases_order, ne_eqb, eq-eqb}
use Rattle.std.proofs.lemmas.List.Elements.{All-from_recursion}
use Rattle.std.proofs.lemmas.List.Recursion.{is_sum_by}
use Rattle.std.proofs.lemmas.List.Sorted.{sum_by-IsPermutation}
use Rattle.std.proofs.lemmas.List.{append-nil}
use Rattle.hrt_base.specs.declared.literal.Lit.{Lit}
use Rattle.hrt_base.specs.declared.literal.Term.{Term}
use Rattle.pb_rows.specs.Terms.{IsPositive, IsRisingFrom, coef_sum, weighing, positive_part}
use Rattle.pb_rows.specs.Points.{Point, share, true_sum}
use Rattle.pb_rows.specs.Joined.{AreFrom, are_alike, lost_all, met, put, put_all, remains}
use Rattle.pb_rows.proofs.Values.{put_above, put_at, put_below, put_all_value}

-- ---- coefficients

pub positive_weight : (z : ℤ) → IsPositive z → 0 < positive_part z
positive_weight (pos n) h = h
positive_weight (negsuc n) h = absurd h

pub rising_down : (low high : ℕ) (ts : List Term) → low ≤ high → IsRisingFrom high ts → IsRisingFrom low ts
rising_down low high [] h r = tt
rising_down low high (t ∷ ts) h r = (omega (arith, r.0, h), r.1, r.2)

positive_by : (low : ℕ) (ts : List Term) → IsRisingFrom low ts → ByRecursion (λ (t : Term). IsPositive t.coef) ts
positive_by low [] r = tt
positive_by low (t ∷ ts) r = (r.1, positive_by (t.lit.var + 1) ts r.2)

pub rising_positive : (low : ℕ) (ts : List Term) → IsRisingFrom low ts → All (λ (t : Term). IsPositive t.coef) ts
rising_positive low ts r = All-from_recursion (λ (t : Term). IsPositive t.coef) ts (positive_by low ts r)

-- ---- two terms over one variable leave at most one

pub record IsMet (t u : Term) : Type 0 where
  pub size : ℕ
  pub lit : Lit
  pub var : lit.var ≡ u.lit.var
  pub is : met t u ≡ remains size lit
  pub within : size ≤ positive_part t.coef + positive_part u.coef

remains_positive : (n : ℕ) (l : Lit) → 0 < n → weighing n l ∷ [] ≡ remains n l
remains_positive zero l h = absurd (omega arith)
remains_positive (suc n) l h = refl

pub met_is : (t u : Term) → t.lit.var ≡ u.lit.var → IsPositive t.coef → IsMet t u
met_is t u e p = elim (cases_Bool (are_alike t u)) [
  | inl alike ↦ record {
    size = positive_part t.coef + positive_part u.coef;
    lit = u.lit;
    var = refl;
    is = rw alike (remains_positive (positive_part t.coef + positive_part u.coef) u.lit (omega (arith, positive_weight t.coef p)));
    within = omega arith;
  }
  | inr apart ↦ elim (cases_order (positive_part t.coef) (positive_part u.coef)) [
    | inl same ↦ record {
      size = 0;
      lit = u.lit;
      var = refl;
      is = rw apart (let x : positive_part u.coef - positive_part t.coef ≡ 0 = omega arith in let y : positive_part t.coef - positive_part u.coef ≡ 0 = omega arith in rw (x, y) refl);
      within = omega arith;
    }
    | inr (inl less) ↦ record {
      size = positive_part u.coef - positive_part t.coef;
      lit = u.lit;
      var = refl;
      is = rw apart (let y : positive_part t.coef - positive_part u.coef ≡ 0 = omega arith in rw y (append-nil (remains (positive_part u.coef - positive_part t.coef) u.lit)));
      within = omega arith;
    }
    | inr (inr more) ↦ record {
      size = positive_part t.coef - positive_part u.coef;
      lit = t.lit;
      var = e;
      is = rw apart (let x : positive_part u.coef - positive_part t.coef ≡ 0 = omega arith in rw x refl);
      within = omega arith;
    }
  ]
]

-- ---- order

remains_rising : (low n : ℕ) (l : Lit) (us : List Term) → low ≤ l.var → IsRisingFrom (l.var + 1) us → IsRisingFrom low (remains n l ++ us)
remains_rising low zero l us h r = rising_down low (l.var + 1) us (omega arith) r
remains_rising low (suc n) l us h r = (h, omega arith, r)

met_rising : (low : ℕ) (t u : Term) (us : List Term) → t.lit.var ≡ u.lit.var → IsPositive t.coef → low ≤ u.lit.var → IsRisingFrom (u.lit.var + 1) us → IsRisingFrom low (met t u ++ us)
met_rising low t u us e p h r =
    let m = met_is t u e p in
    rw m.is (remains_rising low m.size m.lit us (omega (arith, m.var, h)) (rw m.var r))

pub put_rising : (low : ℕ) (t : Term) (us : List Term) → low ≤ t.lit.var → IsPositive t.coef → IsRisingFrom low us → IsRisingFrom low (put t us)
put_rising low t [] h p r = (h, p, tt)
put_rising low t (u ∷ us) h p r = elim (cases_order t.lit.var u.lit.var) [
  | inl e ↦ rw (put_at t u us e).0 (met_rising low t u us e p r.0 r.2)
  | inr (inl less) ↦ rw (put_below t u us less).0 (h, p, (omega arith, r.1, r.2))
  | inr (inr more) ↦ rw (put_above t u us more).0 (r.0, r.1, put_rising (u.lit.var + 1) t us (omega arith) p r.2)
]

pub put_all_rising : (low : ℕ) (us ts : List Term) → AreFrom low ts → IsRisingFrom low us → IsRisingFrom low (put_all us ts)
put_all_rising low us [] a r = r
put_all_rising low us (t ∷ ts) a r = put_all_rising low (put t us) ts a.1 (put_rising low t us a.0.0 a.0.1 r)

from_down : (low high : ℕ) (ts : List Term) → low ≤ high → AreFrom high ts → AreFrom low ts
from_down low high [] h a = tt
from_down low high (t ∷ ts) h a = ((omega (arith, a.0.0, h), a.0.1), from_down low high ts h a.1)

pub rising_from : (low : ℕ) (ts : List Term) → IsRisingFrom low ts → AreFrom low ts
rising_from low [] r = tt
rising_from low (t ∷ ts) r = ((r.0, r.1), from_down low (t.lit.var + 1) ts (omega (arith, r.0)) (rising_from (t.lit.var + 1) ts r.2))

-- ---- sums

pub coef_sum-append : (ts us : List Term) → coef_sum (ts ++ us) ≡ coef_sum ts + coef_sum us
coef_sum-append [] us = omega arith
coef_sum-append (t ∷ ts) us = omega (arith, coef_sum-append ts us)

pub coef_sum-remains : (n : ℕ) (l : Lit) → coef_sum (remains n l) ≡ n
coef_sum-remains zero l = refl
coef_sum-remains (suc n) l = omega arith

pub put_sum : (t : Term) (us : List Term) → IsPositive t.coef → coef_sum (put t us) ≤ positive_part t.coef + coef_sum us
put_sum t [] p = omega arith
put_sum t (u ∷ us) p = elim (cases_order t.lit.var u.lit.var) [
  | inl e ↦ let m = met_is t u e p in rw ((put_at t u us e).0, m.is, coef_sum-append (remains m.size m.lit) us, coef_sum-remains m.size m.lit) (omega (arith, m.within))
  | inr (inl less) ↦ rw (put_below t u us less).0 (omega arith)
  | inr (inr more) ↦ rw (put_above t u us more).0 (omega (arith, put_sum t us p))
]

pub put_all_sum : (low : ℕ) (us ts : List Term) → AreFrom low ts → coef_sum (put_all us ts) ≤ coef_sum us + coef_sum ts
put_all_sum low us [] a = omega arith
put_all_sum low us (t ∷ ts) a = omega (arith, put_all_sum low (put t us) ts a.1, put_sum t us a.0.1)

-- ---- values determine a list that rises

abbrev pub at : ℕ → Bool → Point → Point
at v b p w = if w == v then b else p w

at_above : (v : ℕ) (b : Bool) (p : Point) (low : ℕ) (ts : List Term) → v < low → IsRisingFrom low ts → true_sum (at v b p) ts ≡ true_sum p ts
at_above v b p low [] h r = refl
at_above v b p low (t ∷ ts) h r =
    let other : (t.lit.var == v) ≡ false = ne_eqb t.lit.var v (λ e. omega (arith, r.0, h, e)) in
    rw other (ap (λ n. share p t + n) (at_above v b p (t.lit.var + 1) ts (omega (arith, r.0, h)) r.2))

-- the share of a coefficient n whose literal's sign is m, where its variable is b
abbrev signed_share : Bool → Bool → ℕ → ℕ
signed_share m b n = if (if m then not b else b) then n else 0

at_head : (t : Term) (ts : List Term) (v : ℕ) (b : Bool) (p : Point) → t.lit.var ≡ v → IsRisingFrom (t.lit.var + 1) ts → true_sum (at v b p) (t ∷ ts) ≡ signed_share t.lit.neg b (positive_part t.coef) + true_sum p ts
at_head t ts v b p e r =
    let here : (t.lit.var == v) ≡ true = eq-eqb t.lit.var v e in
    rw here (ap (λ n. signed_share t.lit.neg b (positive_part t.coef) + n) (at_above v b p (t.lit.var + 1) ts (omega (arith, e)) r))

-- a head that the other list lacks is worth nothing
no_head : (m : Bool) (x a b k j : ℕ) → 0 < x → signed_share m true x + a + k ≡ b + j → signed_share m false x + a + k ≡ b + j → ⊥
no_head true x a b k j h e f = omega arith
no_head false x a b k j h e f = omega arith

record SameHead (m n : Bool) (x y a b k j : ℕ) : Type 0 where
  sign : m ≡ n
  size : x ≡ y
  rest : a + k ≡ b + j

same_head : (m n : Bool) (x y a b k j : ℕ) → 0 < x → 0 < y → signed_share m true x + a + k ≡ signed_share n true y + b + j → signed_share m false x + a + k ≡ signed_share n false y + b + j → SameHead m n x y a b k j
same_head true true x y a b k j h i e f = record { sign = refl; size = omega arith; rest = omega arith }
same_head false false x y a b k j h i e f = record { sign = refl; size = omega arith; rest = omega arith }
same_head true false x y a b k j h i e f = absurd (omega arith)
same_head false true x y a b k j h i e f = absurd (omega arith)

term : ℤ → ℕ → Bool → Term
term a v n = record { coef = a; lit = record { var = v; neg = n } }

same_term : (a b : ℤ) (v w : ℕ) (m n : Bool) → IsPositive a → IsPositive b → positive_part a ≡ positive_part b → v ≡ w → m ≡ n → term a v m ≡ term b w n
same_term (pos x) (pos y) v w m n h i e f g = rw (e, f, g) refl
same_term (pos x) (negsuc y) v w m n h i e f g = absurd i
same_term (negsuc x) b v w m n h i e f g = absurd h

pub same_terms : (t u : Term) → IsPositive t.coef → IsPositive u.coef → positive_part t.coef ≡ positive_part u.coef → t.lit.var ≡ u.lit.var → t.lit.neg ≡ u.lit.neg → t ≡ u
unfolding term
same_terms t u h i e f g = same_term t.coef u.coef t.lit.var u.lit.var t.lit.neg u.lit.neg h i e f g

lonely : (t : Term) (ts us : List Term) (high k j : ℕ) → IsPositive t.coef → IsRisingFrom (t.lit.var + 1) ts → IsRisingFrom high us → t.lit.var < high → ((p : Point) → true_sum p (t ∷ ts) + k ≡ true_sum p us + j) → ⊥
lonely t ts us high k j pt r s less h =
    let q : Point = λ _. true in
    no_head t.lit.neg (positive_part t.coef) (true_sum q ts) (true_sum q us) k j (positive_weight t.coef pt)
    (omega (arith, h (at t.lit.var true q), at_head t ts t.lit.var true q refl r, at_above t.lit.var true q high us less s))
    (omega (arith, h (at t.lit.var false q), at_head t ts t.lit.var false q refl r, at_above t.lit.var false q high us less s))

paired : (t u : Term) (ts us : List Term) (k j : ℕ) → IsPositive t.coef → IsPositive u.coef → IsRisingFrom (t.lit.var + 1) ts → IsRisingFrom (u.lit.var + 1) us → t.lit.var ≡ u.lit.var → ((p : Point) → true_sum p (t ∷ ts) + k ≡ true_sum p (u ∷ us) + j) → (p : Point) → SameHead t.lit.neg u.lit.neg (positive_part t.coef) (positive_part u.coef) (true_sum p ts) (true_sum p us) k j
paired t u ts us k j pt pu r s e h p =
    same_head t.lit.neg u.lit.neg (positive_part t.coef) (positive_part u.coef) (true_sum p ts) (true_sum p us) k j (positive_weight t.coef pt) (positive_weight u.coef pu)
    (omega (arith, h (at u.lit.var true p), at_head t ts u.lit.var true p e r, at_head u us u.lit.var true p refl s))
    (omega (arith, h (at u.lit.var false p), at_head t ts u.lit.var false p e r, at_head u us u.lit.var false p refl s))

pub determined : (low high : ℕ) (ts us : List Term) (k j : ℕ) → IsRisingFrom low ts → IsRisingFrom high us → ((p : Point) → true_sum p ts + k ≡ true_sum p us + j) → (ts ≡ us) × (k ≡ j)
determined low high [] [] k j r s h = (refl, omega (arith, h (λ _. true)))
determined low high (t ∷ ts) [] k j r s h = absurd (lonely t ts [] (t.lit.var + 1) k j r.1 r.2 tt (omega arith) h)
determined low high [] (u ∷ us) k j r s h = absurd (lonely u us [] (u.lit.var + 1) j k s.1 s.2 tt (omega arith) (λ p. sym (h p)))
determined low high (t ∷ ts) (u ∷ us) k j r s h = elim (cases_order t.lit.var u.lit.var) [
  | inl e ↦
      let same = paired t u ts us k j r.1 s.1 r.2 s.2 e h in
      let rest = determined (t.lit.var + 1) (u.lit.var + 1) ts us k j r.2 s.2 (λ p. (same p).rest) in
      let one = same (λ _. true) in
      (ap₂ (λ (x : Term) (xs : List Term). x ∷ xs) (same_terms t u r.1 s.1 one.size e one.sign) rest.0, rest.1)
  | inr (inl less) ↦ absurd (lonely t ts (u ∷ us) u.lit.var k j r.1 r.2 (omega arith, s.1, s.2) less h)
  | inr (inr more) ↦ absurd (lonely u us (t ∷ ts) t.lit.var j k s.1 s.2 (omega arith, r.1, r.2) more (λ p. sym (h p)))
]

-- ---- a list in another order

pub true_sum-permuted : (p : Point) (ts us : List Term) → IsPermutation ts us → true_sum p us ≡ true_sum p ts
true_sum-permuted p ts us h =
    let is = is_sum_by (true_sum p) (share p) refl (λ _ _. refl) in
    is us ∙ sum_by-IsPermutation (share p) ts us h ∙ sym (is ts)

pub joined_permuted : (ts us : List Term) → AreFrom 0 ts → AreFrom 0 us → IsPermutation ts us → (put_all [] us ≡ put_all [] ts) × (lost_all [] us ≡ lost_all [] ts)
joined_permuted ts us a b h =
    determined 0 0 (put_all [] us) (put_all [] ts) (lost_all [] us) (lost_all [] ts) (put_all_rising 0 [] us b tt) (put_all_rising 0 [] ts a tt)
    (λ p. omega (arith, put_all_value p [] us, put_all_value p [] ts, true_sum-permuted p ts us h))

pub positive_at : (ts : List Term) (low : ℕ) (i : ℕ) (d : Term) → IsRisingFrom low ts → i < length ts → IsPositive (get_or ts i d).coef
positive_at ts low i d r h = rising_positive low ts r i d h
