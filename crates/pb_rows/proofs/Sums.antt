-- Sums of coefficients, step by step.
use Rattle.std.proofs.Common.{◌≡◌, ◌∙◌, ◌≤◌, ◌<◌, ◌+◌, ℕ, List, [], ◌∷◌, refl, sym, take, length, get_or, arith, inl, inr}
use Rattle.std.specs.List.{sum_by}
use Rattle.std.specs.List.Sorted.{IsPermutation}
use Rattle.std.proofs.lemmas.Bool.{cases_Bool}
use Rattle.std.proofs.lemmas.List.Sums.{sum_by_more_le, sum_by_more, sum_by-take-le}
use Rattle.std.proofs.lemmas.List.Sorted.{sum_by-IsPermutation}
use Rattle.std.proofs.lemmas.List.Recursion.{is_sum_by}
use Rattle.hrt_base.specs.declared.literal.Term.{Term}
use Rattle.pb_rows.specs.Terms.{coef_sum, is_over, opposite_lit, part_over, positive_part, weight_over}
use Rattle.pb_rows.specs.Points.{Point, is_true_at, share, true_sum}
use Rattle.pb_rows.specs.Closure.{Literals, nonfalse_share, nonfalse_sum}

coef_sum_is : (ts : List Term) → coef_sum ts ≡ sum_by (λ (t : Term). positive_part t.coef) ts
coef_sum_is = is_sum_by coef_sum (λ (t : Term). positive_part t.coef) refl (λ t ts. refl)

pub coef_sum_more : (ts : List Term) (i : ℕ) (d : Term) → i < length ts → coef_sum (take (i + 1) ts) ≡ coef_sum (take i ts) + positive_part (get_or ts i d).coef
coef_sum_more ts i d h = rw (coef_sum_is (take (i + 1) ts), coef_sum_is (take i ts)) (sum_by_more (λ (t : Term). positive_part t.coef) ts i d h)

pub coef_sum_more_le : (ts : List Term) (i : ℕ) (d : Term) → i < length ts → coef_sum (take i ts) + positive_part (get_or ts i d).coef ≤ coef_sum ts
coef_sum_more_le ts i d h = rw (coef_sum_is (take i ts), coef_sum_is ts) (sum_by_more_le (λ (t : Term). positive_part t.coef) ts i d h)

weight_over_is : (v : ℕ) (ts : List Term) → weight_over v ts ≡ sum_by (part_over v) ts
weight_over_is v = is_sum_by (weight_over v) (part_over v) refl (λ t ts. refl)

pub weight_over_more : (v : ℕ) (ts : List Term) (i : ℕ) (d : Term) → i < length ts → weight_over v (take (i + 1) ts) ≡ weight_over v (take i ts) + part_over v (get_or ts i d)
weight_over_more v ts i d h = rw (weight_over_is v (take (i + 1) ts), weight_over_is v (take i ts)) (sum_by_more (part_over v) ts i d h)

pub weight_over_more_le : (v : ℕ) (ts : List Term) (i : ℕ) (d : Term) → i < length ts → weight_over v (take i ts) + part_over v (get_or ts i d) ≤ weight_over v ts
weight_over_more_le v ts i d h = rw (weight_over_is v (take i ts), weight_over_is v ts) (sum_by_more_le (part_over v) ts i d h)

true_sum_is : (p : Point) (ts : List Term) → true_sum p ts ≡ sum_by (share p) ts
true_sum_is p = is_sum_by (true_sum p) (share p) refl (λ t ts. refl)

pub true_sum_more : (p : Point) (ts : List Term) (i : ℕ) (d : Term) → i < length ts → true_sum p (take (i + 1) ts) ≡ true_sum p (take i ts) + share p (get_or ts i d)
true_sum_more p ts i d h = rw (true_sum_is p (take (i + 1) ts), true_sum_is p (take i ts)) (sum_by_more (share p) ts i d h)

pub true_sum_more_le : (p : Point) (ts : List Term) (i : ℕ) (d : Term) → i < length ts → true_sum p (take i ts) + share p (get_or ts i d) ≤ true_sum p ts
true_sum_more_le p ts i d h = rw (true_sum_is p (take i ts), true_sum_is p ts) (sum_by_more_le (share p) ts i d h)

nonfalse_sum_is : (s : Literals) (ts : List Term) → nonfalse_sum s ts ≡ sum_by (nonfalse_share s) ts
nonfalse_sum_is s = is_sum_by (nonfalse_sum s) (nonfalse_share s) refl (λ t ts. refl)

pub nonfalse_sum_more : (s : Literals) (ts : List Term) (i : ℕ) (d : Term) → i < length ts → nonfalse_sum s (take (i + 1) ts) ≡ nonfalse_sum s (take i ts) + nonfalse_share s (get_or ts i d)
nonfalse_sum_more s ts i d h = rw (nonfalse_sum_is s (take (i + 1) ts), nonfalse_sum_is s (take i ts)) (sum_by_more (nonfalse_share s) ts i d h)

pub nonfalse_sum_more_le : (s : Literals) (ts : List Term) (i : ℕ) (d : Term) → i < length ts → nonfalse_sum s (take i ts) + nonfalse_share s (get_or ts i d) ≤ nonfalse_sum s ts
nonfalse_sum_more_le s ts i d h = rw (nonfalse_sum_is s (take i ts), nonfalse_sum_is s ts) (sum_by_more_le (nonfalse_share s) ts i d h)

pub weight_over_le : (v : ℕ) (ts : List Term) → weight_over v ts ≤ coef_sum ts
weight_over_le v [] = omega arith
weight_over_le v (t ∷ ts) = elim (cases_Bool (is_over v t)) [ inl e ↦ rw e (omega (arith, weight_over_le v ts)) | inr e ↦ rw e (omega (arith, weight_over_le v ts)) ]

pub true_sum_le : (p : Point) (ts : List Term) → true_sum p ts ≤ coef_sum ts
true_sum_le p [] = omega arith
true_sum_le p (t ∷ ts) = elim (cases_Bool (is_true_at p t.lit)) [ inl e ↦ rw e (omega (arith, true_sum_le p ts)) | inr e ↦ rw e (omega (arith, true_sum_le p ts)) ]

pub nonfalse_sum_le : (s : Literals) (ts : List Term) → nonfalse_sum s ts ≤ coef_sum ts
nonfalse_sum_le s [] = omega arith
nonfalse_sum_le s (t ∷ ts) = elim (cases_Bool (s (opposite_lit t.lit))) [ inl e ↦ rw e (omega (arith, nonfalse_sum_le s ts)) | inr e ↦ rw e (omega (arith, nonfalse_sum_le s ts)) ]

pub nonfalse_sum_more_all : (s : Literals) (ts : List Term) (i : ℕ) → nonfalse_sum s (take i ts) ≤ nonfalse_sum s ts
nonfalse_sum_more_all s ts i = rw (nonfalse_sum_is s (take i ts), nonfalse_sum_is s ts) (sum_by-take-le (nonfalse_share s) ts i)

pub coef_sum-permuted : (ts us : List Term) → IsPermutation ts us → coef_sum us ≡ coef_sum ts
coef_sum-permuted ts us h = coef_sum_is us ∙ sum_by-IsPermutation (λ (t : Term). positive_part t.coef) ts us h ∙ sym (coef_sum_is ts)
