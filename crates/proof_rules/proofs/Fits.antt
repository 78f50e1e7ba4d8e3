-- Which rows fit: all but sums and multiples.
use Rattle.std.proofs.Common.{◌≡◌, ℕ, zero, suc, ◌+◌, ◌*◌, ◌^◌, ◌≤◌, Bool, true, false, cond, List, [], ◌∷◌, nat_le, ℤ, pos, negsuc, ◌+ℤ◌, ◌-ℤ◌, neg_ℤ, ◌≤ℤ◌, int_le, subst, refl, sym, ◌∙◌, arith}
use Rattle.std.specs.Int.RustNames.{unsigned_abs}
use Rattle.std.proofs.Math.Nat.{mul-le-mul_left}
use Rattle.std.proofs.lemmas.Int.{ints}
use Rattle.std.proofs.lemmas.Bool.{leb-true, le-leb, and_parts, and_from}
use Rattle.hrt_base.specs.declared.literal.Lit.{Lit}
use Rattle.hrt_base.specs.declared.literal.Term.{Term}
use Rattle.pb_rows.specs.Terms.{PlainRow, coef_sum, positive_part}
use Rattle.pb_rows.specs.Points.{Point, true_sum, value_at}
use Rattle.pb_rows.specs.Normal.{all_sizes, gained, normal_form, on_opposites, sizes, var_bound}
use Rattle.pb_rows.specs.Rows.{Fits, IsWellFormedRow, literal_row}
use Rattle.pb_rows.proofs.ByNets.{holds-normal_form}
pub use Rattle.pb_rows.proofs.NormalSizes.{fits-normal_form, normal_form-degree, normal_form-rises, normal_form-sum}
use Rattle.pb_rows.proofs.Sums.{true_sum_le}
use Rattle.proof_rules.specs.Pol.{fits}
use Rattle.proof_rules.specs.States.{at_most_row, minus_terms}
use Rattle.proof_rules.proofs.Steps.{value-negated}

-- ---- the test

pub fits_true : (row : PlainRow) → Fits row → fits row ≡ true
fits_true row h = and_from (nat_le (coef_sum row.terms) (2 ^ 120)) (nat_le row.degree (2 ^ 120)) (le-leb (coef_sum row.terms) (2 ^ 120) h.sum) (le-leb row.degree (2 ^ 120) h.degree)

pub true_fits : (row : PlainRow) → fits row ≡ true → Fits row
true_fits row h =
    let parts = and_parts (nat_le (coef_sum row.terms) (2 ^ 120)) (nat_le row.degree (2 ^ 120)) h in
    record { sum = leb-true (coef_sum row.terms) (2 ^ 120) parts.0; degree = leb-true row.degree (2 ^ 120) parts.1 }

-- ---- division, saturation, weakening, literals

kept_step : (b : Bool) (t : Term) (kept : List Term) (s : ℕ) → coef_sum kept ≤ s → coef_sum (cond b (t ∷ kept) kept) ≤ positive_part t.coef + s
kept_step true t kept s h = omega (arith, h)
kept_step false t kept s h = omega (arith, h)

grown : (c k : ℕ) → c ≤ c * suc k
grown c k = let h : 1 ≤ suc k = omega arith in omega (arith, mul-le-mul_left c h)

pub fits-literal_row : (l : Lit) → Fits (literal_row l)
fits-literal_row l = record { sum = omega arith; degree = omega arith }

-- ---- the row of a solution

pub sizes-minus : (ts : List Term) → sizes (minus_terms ts) ≡ sizes ts
sizes-minus [] = refl
sizes-minus (t ∷ ts) = omega (arith, same_size t.coef, sizes-minus ts)
  where
    same_size : (z : ℤ) → unsigned_abs (neg_ℤ z) ≡ unsigned_abs z
    same_size (pos zero) = refl
    same_size (pos (suc n)) = refl
    same_size (negsuc n) = refl

pub positive_part_least : (z : ℤ) (n : ℕ) → z ≤ℤ pos n → positive_part z ≤ n
positive_part_least (pos m) n h = omega (arith, ints, h)
positive_part_least (negsuc m) n h = omega arith

one_more : (z : ℤ) → positive_part (z +ℤ pos 1) ≤ positive_part z + 1
one_more (pos n) = omega arith
one_more (negsuc n) = positive_part_least (negsuc n +ℤ pos 1) (0 + 1) (omega (arith, ints))

pub same_shift : (v o g z : ℤ) → z ≡ (neg_ℤ v -ℤ o) +ℤ g → (neg_ℤ (v -ℤ pos 1) -ℤ o) +ℤ g ≡ z +ℤ pos 1
same_shift v o g z e = omega (arith, ints)

le_self : (v w : ℤ) → w ≡ neg_ℤ v → int_le (neg_ℤ v) w ≡ true
le_self v w e = grind (arith, ints)

-- `objective <= v` holds where v is the value, so its degree is at most the sum of its coefficients
at_value-degree : (p : Point) (ts : List Term) → (at_most_row ts (value_at p ts)).degree ≤ sizes ts
at_value-degree p ts =
    let here : (at_most_row ts (value_at p ts)).degree ≤ true_sum p (at_most_row ts (value_at p ts)).terms =
    leb-true (at_most_row ts (value_at p ts)).degree (true_sum p (at_most_row ts (value_at p ts)).terms)
    (holds-normal_form p (minus_terms ts) (neg_ℤ (value_at p ts)) ∙ le_self (value_at p ts) (value_at p (minus_terms ts)) (value-negated p ts)) in
    omega (arith, here, true_sum_le p (at_most_row ts (value_at p ts)).terms, normal_form-sum (minus_terms ts) (neg_ℤ (value_at p ts)), sizes-minus ts)

at_most-sum : (ts : List Term) (v : ℤ) → coef_sum (at_most_row ts v).terms ≤ sizes ts
at_most-sum ts v = omega (arith, normal_form-sum (minus_terms ts) (neg_ℤ v), sizes-minus ts)

-- `objective <= v` itself, with an objective within 2^120
pub fits-at_value : (p : Point) (ts : List Term) → sizes ts ≤ 2 ^ 120 → Fits (at_most_row ts (value_at p ts))
fits-at_value p ts h = record { sum = omega (arith, h, at_most-sum ts (value_at p ts)); degree = omega (arith, h, at_value-degree p ts) }

-- one less asks for one more
less-degree : (p : Point) (ts : List Term) → (at_most_row ts (value_at p ts -ℤ pos 1)).degree ≤ (at_most_row ts (value_at p ts)).degree + 1
less-degree p ts =
    let g : ℕ = gained (var_bound (minus_terms ts)) (minus_terms ts) in
    subst (λ (z : ℤ). positive_part z ≤ (at_most_row ts (value_at p ts)).degree + 1)
    (sym (same_shift (value_at p ts) (on_opposites (minus_terms ts)) (pos g) ((neg_ℤ (value_at p ts) -ℤ on_opposites (minus_terms ts)) +ℤ pos g) refl))
    (one_more ((neg_ℤ (value_at p ts) -ℤ on_opposites (minus_terms ts)) +ℤ pos g))

-- with an objective within 2^119
pub fits-solution_row : (p : Point) (ts : List Term) → sizes ts ≤ 2 ^ 119 → Fits (at_most_row ts (value_at p ts -ℤ pos 1))
fits-solution_row p ts h = record {
  sum = omega (arith, h, at_most-sum ts (value_at p ts -ℤ pos 1));
  degree = omega (arith, h, at_value-degree p ts, less-degree p ts);
}
