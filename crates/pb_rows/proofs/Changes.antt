-- Rows whose coefficients change: they stay rows, and hold wherever they held.
use mir.Syntax.{w128}
use mir.Val.{SFits, of_z, to_z}
use Rattle.std.proofs.lemmas.Int.{to_z-of_z}
use Rattle.std.proofs.Common.{◌≡◌, ◌∙◌, ◌≤◌, ◌<◌, ◌^◌, ◌+◌, ◌*◌, inl, inr, ℕ, ℤ, min, true, not, nat_lt, nat_le, List, [], ◌∷◌, map, filter, length, get_or, refl, ap, sym, arith}
use Rattle.std.specs.Int.{div_ceil}
use Rattle.std.specs.List.{All}
use Rattle.std.proofs.lemmas.Bool.{cases_Bool, cases_lt, le-leb, leb-true, lt-ltb}
use Rattle.std.proofs.lemmas.Bool.Decides.{nat_tests}
use Rattle.std.proofs.lemmas.Grind.{div_ceil_times}
use Rattle.std.proofs.Math.Nat.{mul-le-mul_left, mul-le-mul_right}
use Rattle.hrt_base.specs.declared.literal.Term.{Term}
use Rattle.pb_rows.specs.Terms.{IsRisingFrom, PlainRow, capped, coef_sum, divided, is_over, is_present, negated, reweighed, scaled, positive_part, weight_over}
use Rattle.pb_rows.specs.Points.{Point, is_true_at, share, true_sum}
use Rattle.pb_rows.specs.Rows.{AddsValues, Fits, HoldsAfter, HoldsWithBoth, IsWellFormedRow, divide, holds, opposite_row, saturate, times, weaken}
use Rattle.pb_rows.specs.Joined.{merged, put_all}
use Rattle.pb_rows.proofs.Order.{positive_weight, put_all_rising, put_all_sum, rising_down, rising_from}
use Rattle.pb_rows.proofs.Sums.{coef_sum_more_le}
use Rattle.pb_rows.proofs.Values.{put_all_value}

abbrev pub row_of : List Term → ℕ → PlainRow
row_of ts d = record { terms = ts; degree = d }

-- a number that was passed on by value
pub weight_passed : (z : ℤ) → SFits w128 z → positive_part (to_z w128 (of_z w128 z)) ≡ positive_part z
weight_passed z h = ap positive_part (to_z-of_z w128 z h)

-- ---- any change of the coefficients

pub reweighed_rising : (f : ℕ → ℕ) → ((n : ℕ) → 0 < n → 0 < f n) → (low : ℕ) (ts : List Term) → IsRisingFrom low ts → IsRisingFrom low (map (reweighed f) ts)
reweighed_rising f h low [] r = tt
reweighed_rising f h low (t ∷ ts) r = (r.0, h (positive_part t.coef) (positive_weight t.coef r.1), reweighed_rising f h (t.lit.var + 1) ts r.2)

pub reweighed_sum : (f : ℕ → ℕ) → ((n : ℕ) → f n ≤ n) → (ts : List Term) → coef_sum (map (reweighed f) ts) ≤ coef_sum ts
reweighed_sum f h [] = omega arith
reweighed_sum f h (t ∷ ts) = omega (arith, h (positive_part t.coef), reweighed_sum f h ts)

-- ---- multiplication

pub scaled_sum : (k : ℕ) (ts : List Term) → coef_sum (map (scaled k) ts) ≡ coef_sum ts * k
scaled_sum k [] = omega arith
scaled_sum k (t ∷ ts) = omega (arith, scaled_sum k ts)

positive_times : (k : ℕ) → 0 < k → (n : ℕ) → 0 < n → 0 < n * k
positive_times k p n h = omega (arith, mul-le-mul_right k h, p)

pub times_normal : (k : ℕ) (ts : List Term) (d : ℕ) → 0 < k → (coef_sum ts * k ≤ 2 ^ 120) × (d * k ≤ 2 ^ 120) → IsWellFormedRow (row_of ts d) → IsWellFormedRow (row_of (map (scaled k) ts) (d * k))
times_normal k ts d p f r = record {
  rising = reweighed_rising (λ n. n * k) (positive_times k p) 0 ts r.rising;
  fits = record { sum = omega (arith, scaled_sum k ts, f.0); degree = f.1 };
}

weight_within : (ts : List Term) (i : ℕ) (d : Term) → i < length ts → positive_part (get_or ts i d).coef ≤ coef_sum ts
weight_within ts i d h = omega (arith, coef_sum_more_le ts i d h)

pub each_fits : (k : ℕ) (ts : List Term) → coef_sum ts * k ≤ 2 ^ 120 → All (λ (t : Term). positive_part t.coef * k < 2 ^ 127) ts
each_fits k ts h i d lt = omega (arith, h, mul-le-mul_right k (weight_within ts i d lt))

pub times_fits : (k : ℕ) (ts : List Term) (d : ℕ) → (coef_sum ts * k ≤ 2 ^ 120) × (d * k ≤ 2 ^ 120) → Fits (times k (row_of ts d))
times_fits k ts d f = record { sum = omega (arith, scaled_sum k ts, f.0); degree = f.1 }

pub fits_times : (k : ℕ) (ts : List Term) (d : ℕ) → Fits (times k (row_of ts d)) → (coef_sum ts * k ≤ 2 ^ 120) × (d * k ≤ 2 ^ 120)
fits_times k ts d f = (omega (arith, scaled_sum k ts, f.sum), f.degree)

scaled_value : (p : Point) (k : ℕ) (ts : List Term) → true_sum p (map (scaled k) ts) ≡ true_sum p ts * k
scaled_value p k [] = omega arith
scaled_value p k (t ∷ ts) = elim (cases_Bool (is_true_at p t.lit)) [
  | inl e ↦ rw e (omega (arith, scaled_value p k ts))
  | inr e ↦ rw e (omega (arith, scaled_value p k ts))
]

pub times_holds : (p : Point) (k : ℕ) (r : PlainRow) → holds p r ≡ true → holds p (times k r) ≡ true
times_holds p k r h =
    let here : r.degree ≤ true_sum p r.terms = leb-true r.degree (true_sum p r.terms) h in
    le-leb (r.degree * k) (true_sum p (map (scaled k) r.terms)) (omega (arith, scaled_value p k r.terms, mul-le-mul_right k here))

-- ---- division

divided_positive : (k : ℕ) → 0 < k → (n : ℕ) → 0 < n → 0 < div_ceil n k
divided_positive k p n h = elim (cases_lt 0 (div_ceil n k)) [
  | inl q ↦ q
  | inr q ↦ absurd (omega (arith, (div_ceil_times n k p).0, mul-le-mul_right k q))
]

divided_le : (k : ℕ) → 0 < k → (n m : ℕ) → n ≤ m * k → div_ceil n k ≤ m
divided_le k p n m h = elim (cases_lt m (div_ceil n k)) [
  | inl q ↦ absurd (omega (arith, (div_ceil_times n k p).1, mul-le-mul_right k q))
  | inr q ↦ q
]

divided_less : (k : ℕ) → 0 < k → (n : ℕ) → div_ceil n k ≤ n
divided_less k p n = divided_le k p n n (omega (arith, mul-le-mul_left n p))

pub divide_normal : (k : ℕ) (ts : List Term) (d : ℕ) → 0 < k → IsWellFormedRow (row_of ts d) → IsWellFormedRow (row_of (map (divided k) ts) (div_ceil d k))
divide_normal k ts d p r = record {
  rising = reweighed_rising (λ n. div_ceil n k) (divided_positive k p) 0 ts r.rising;
  fits = record {
    sum = omega (arith, reweighed_sum (λ n. div_ceil n k) (divided_less k p) ts, r.fits.sum);
    degree = omega (arith, divided_less k p d, r.fits.degree);
  };
}

divided_value : (p : Point) (k : ℕ) → 0 < k → (ts : List Term) → true_sum p ts ≤ true_sum p (map (divided k) ts) * k
divided_value p k q [] = omega arith
divided_value p k q (t ∷ ts) = elim (cases_Bool (is_true_at p t.lit)) [
  | inl e ↦ rw e (omega (arith, (div_ceil_times (positive_part t.coef) k q).0, divided_value p k q ts))
  | inr e ↦ rw e (omega (arith, divided_value p k q ts))
]

pub divide_holds : (p : Point) (k : ℕ) (r : PlainRow) → 0 < k → holds p r ≡ true → holds p (divide k r) ≡ true
divide_holds p k r q h =
    let here : r.degree ≤ true_sum p r.terms = leb-true r.degree (true_sum p r.terms) h in
    le-leb (div_ceil r.degree k) (true_sum p (map (divided k) r.terms)) (divided_le k q r.degree (true_sum p (map (divided k) r.terms)) (omega (arith, divided_value p k q r.terms)))

-- ---- saturation

capped_positive : (d : ℕ) → 0 < d → (n : ℕ) → 0 < n → 0 < min n d
capped_positive d p n h = omega arith

all_present : (low : ℕ) (ts : List Term) → IsRisingFrom low ts → filter is_present ts ≡ ts
all_present low [] r = refl
all_present low (t ∷ ts) r =
    let here : nat_lt 0 (positive_part t.coef) ≡ true = lt-ltb 0 (positive_part t.coef) (positive_weight t.coef r.1) in
    rw here (ap (λ (us : List Term). t ∷ us) (all_present (t.lit.var + 1) ts r.2))

none_present : (ts : List Term) → filter is_present (map (capped 0) ts) ≡ []
none_present [] = refl
none_present (t ∷ ts) =
    let none : min (positive_part t.coef) 0 ≡ 0 = omega arith in
    rw none (none_present ts)

pub saturate_empty : (ts : List Term) (d : ℕ) → d ≡ 0 → row_of [] d ≡ saturate (row_of ts d)
saturate_empty ts d e = rw e (ap (λ (us : List Term). row_of us 0) (sym (none_present ts)))

pub saturate_is : (ts : List Term) (d : ℕ) → 0 < d → IsWellFormedRow (row_of ts d) → row_of (map (capped d) ts) d ≡ saturate (row_of ts d)
saturate_is ts d p r =
    ap (λ (us : List Term). row_of us d) (sym (all_present 0 (map (capped d) ts) (reweighed_rising (λ n. min n d) (capped_positive d p) 0 ts r.rising)))

pub saturate_normal : (ts : List Term) (d : ℕ) → 0 < d → IsWellFormedRow (row_of ts d) → IsWellFormedRow (row_of (map (capped d) ts) d)
saturate_normal ts d p r = record {
  rising = reweighed_rising (λ n. min n d) (capped_positive d p) 0 ts r.rising;
  fits = record {
    sum = omega (arith, reweighed_sum (λ n. min n d) (λ n. omega arith) ts, r.fits.sum);
    degree = r.fits.degree;
  };
}

capped_value : (p : Point) (d : ℕ) (ts : List Term) → min d (true_sum p ts) ≤ true_sum p (map (capped d) ts)
capped_value p d [] = omega arith
capped_value p d (t ∷ ts) = elim (cases_Bool (is_true_at p t.lit)) [
  | inl e ↦ rw e (omega (arith, capped_value p d ts))
  | inr e ↦ rw e (omega (arith, capped_value p d ts))
]

present_value : (p : Point) (ts : List Term) → true_sum p (filter is_present ts) ≡ true_sum p ts
present_value p [] = refl
present_value p (t ∷ ts) = elim (cases_lt 0 (positive_part t.coef)) [
  | inl h ↦ rw lt-ltb (ap (λ n. share p t + n) (present_value p ts))
  | inr h ↦
      let none : positive_part t.coef ≡ 0 = omega arith in
      elim (cases_Bool (is_true_at p t.lit)) [
        | inl e ↦ rw (e, none) (present_value p ts ∙ omega arith)
        | inr e ↦ rw (e, none) (present_value p ts ∙ omega arith)
      ]
]

pub saturate_holds : (p : Point) (r : PlainRow) → holds p r ≡ true → holds p (saturate r) ≡ true
saturate_holds p r h =
    let here : r.degree ≤ true_sum p r.terms = leb-true r.degree (true_sum p r.terms) h in
    le-leb r.degree (true_sum p (filter is_present (map (capped r.degree) r.terms))) (omega (arith, present_value p (map (capped r.degree) r.terms), capped_value p r.degree r.terms))

-- ---- weakening

weakened_rising : (v low : ℕ) (ts : List Term) → IsRisingFrom low ts → IsRisingFrom low (filter (λ t. not (is_over v t)) ts)
weakened_rising v low [] r = tt
weakened_rising v low (t ∷ ts) r = elim (cases_Bool (is_over v t)) [
  | inl e ↦ rw e (rising_down low (t.lit.var + 1) (filter (λ t. not (is_over v t)) ts) (omega (arith, r.0)) (weakened_rising v (t.lit.var + 1) ts r.2))
  | inr e ↦ rw e (r.0, r.1, weakened_rising v (t.lit.var + 1) ts r.2)
]

weakened_sum : (v : ℕ) (ts : List Term) → coef_sum (filter (λ t. not (is_over v t)) ts) ≤ coef_sum ts
weakened_sum v [] = omega arith
weakened_sum v (t ∷ ts) = elim (cases_Bool (is_over v t)) [
  | inl e ↦ rw e (omega (arith, weakened_sum v ts))
  | inr e ↦ rw e (omega (arith, weakened_sum v ts))
]

pub weaken_normal : (v : ℕ) (ts : List Term) (d e : ℕ) → e ≤ d → IsWellFormedRow (row_of ts d) → IsWellFormedRow (row_of (filter (λ t. not (is_over v t)) ts) e)
weaken_normal v ts d e h r = record {
  rising = weakened_rising v 0 ts r.rising;
  fits = record { sum = omega (arith, weakened_sum v ts, r.fits.sum); degree = omega (arith, h, r.fits.degree) };
}

weakened_value : (p : Point) (v : ℕ) (ts : List Term) → true_sum p ts ≤ true_sum p (filter (λ t. not (is_over v t)) ts) + weight_over v ts
weakened_value p v [] = omega arith
weakened_value p v (t ∷ ts) = elim (cases_Bool (is_over v t)) [
  | inl e ↦ elim (cases_Bool (is_true_at p t.lit)) [
    | inl f ↦ rw (e, f) (omega (arith, weakened_value p v ts))
    | inr f ↦ rw (e, f) (omega (arith, weakened_value p v ts))
  ]
  | inr e ↦ rw e (omega (arith, weakened_value p v ts))
]

pub weaken_holds : (p : Point) (v : ℕ) (r : PlainRow) → holds p r ≡ true → holds p (weaken v r) ≡ true
weaken_holds p v r h =
    let here : r.degree ≤ true_sum p r.terms = leb-true r.degree (true_sum p r.terms) h in
    le-leb (weaken v r).degree (true_sum p (weaken v r).terms) (omega (arith, weakened_value p v r.terms))

-- ---- addition

pub joined_rising : (a b : List Term) → IsRisingFrom 0 a → IsRisingFrom 0 b → IsRisingFrom 0 (put_all a b)
joined_rising a b r s = put_all_rising 0 a b (rising_from 0 b s) r

pub joined_sum : (a b : List Term) → IsRisingFrom 0 b → coef_sum (put_all a b) ≤ coef_sum a + coef_sum b
joined_sum a b s = put_all_sum 0 a b (rising_from 0 b s)

-- the sum holds exactly where the values of both reach both degrees
merged_exactly : (p : Point) (a b : PlainRow) → holds p (merged a b) ≡ nat_le (a.degree + b.degree) (true_sum p a.terms + true_sum p b.terms)
merged_exactly p a b = grind (arith, nat_tests, put_all_value p a.terms b.terms)

merged_holds : (p : Point) (a b : PlainRow) → holds p a ≡ true → holds p b ≡ true → holds p (merged a b) ≡ true
merged_holds p a b h k =
    let x : a.degree ≤ true_sum p a.terms = leb-true a.degree (true_sum p a.terms) h in
    let y : b.degree ≤ true_sum p b.terms = leb-true b.degree (true_sum p b.terms) k in
    le-leb (merged a b).degree (true_sum p (merged a b).terms) (omega (arith, put_all_value p a.terms b.terms))

-- ---- the opposite

negated_value : (p : Point) (ts : List Term) → true_sum p (map negated ts) + true_sum p ts ≡ coef_sum ts
negated_value p [] = omega arith
negated_value p (t ∷ ts) = elim (cases_Bool (p t.lit.var)) [
  | inl e ↦ elim (cases_Bool t.lit.neg) [ inl n ↦ rw (n, e) (omega (arith, negated_value p ts)) | inr n ↦ rw (n, e) (omega (arith, negated_value p ts)) ]
  | inr e ↦ elim (cases_Bool t.lit.neg) [ inl n ↦ rw (n, e) (omega (arith, negated_value p ts)) | inr n ↦ rw (n, e) (omega (arith, negated_value p ts)) ]
]

pub opposite_holds : (p : Point) (r : PlainRow) → holds p (opposite_row r) ≡ not (holds p r)
opposite_holds p r = grind (arith, nat_tests, negated_value p r.terms)

-- ---- the laws, of what an operation left

pub times_sound : (k : ℕ) (r s : PlainRow) → s ≡ times k r → HoldsAfter r s
times_sound k r s e p h = rw e (times_holds p k r h)

pub divide_sound : (k : ℕ) (r s : PlainRow) → 0 < k → s ≡ divide k r → HoldsAfter r s
divide_sound k r s q e p h = rw e (divide_holds p k r q h)

pub saturate_sound : (r s : PlainRow) → s ≡ saturate r → HoldsAfter r s
saturate_sound r s e p h = rw e (saturate_holds p r h)

pub weaken_sound : (v : ℕ) (r s : PlainRow) → s ≡ weaken v r → HoldsAfter r s
weaken_sound v r s e p h = rw e (weaken_holds p v r h)

pub merged_sound : (a b s : PlainRow) → s ≡ merged a b → HoldsWithBoth a b s
merged_sound a b s e p h k = rw e (merged_holds p a b h k)

pub merged_exact : (a b s : PlainRow) → s ≡ merged a b → AddsValues a b s
merged_exact a b s e p = rw e (merged_exactly p a b)
