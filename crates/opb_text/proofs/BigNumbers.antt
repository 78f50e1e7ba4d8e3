-- A number that passes 2^120 makes a line too big.
use Rattle.std.proofs.Common.{◌≡◌, ℕ, ◌^◌, ◌<◌, false, nat_le, nat_abs, inl, inr, List, [], ◌∷◌, ◌++◌, arith}
use Rattle.std.specs.List.{list_all}
use Rattle.std.proofs.lemmas.Bool.{cases_Bool}
use Rattle.std.proofs.lemmas.Bool.Decides.{nat_tests}
use Rattle.hrt_base.specs.declared.literal.Term.{Term}
use Rattle.pb_rows.specs.Terms.{Written}
use Rattle.pb_rows.specs.Normal.{all_sizes, sizes}
use Rattle.row_text.specs.Numbers.{is_small}
use Rattle.row_text.specs.Rows.{is_small_row, is_small_term}

big_number : (n : ℕ) → nat_le n (2 ^ 120) ≡ false → 2 ^ 120 < n
big_number n h = grind (arith, nat_tests)

big_terms : (ts : List Term) → list_all is_small_term ts ≡ false → 2 ^ 120 < sizes ts
big_terms [] h = absurd cc
big_terms (t ∷ ts) h = elim (cases_Bool (is_small_term t)) [
  | inl small ↦ let rest : list_all is_small_term ts ≡ false = rw small at h in omega (arith, big_terms ts rest)
  | inr big ↦ omega (arith, big_number (nat_abs t.coef) big)
]

pub big_row : (row : Written) → is_small_row row ≡ false → 2 ^ 120 < all_sizes row.terms row.at_least
big_row row h = elim (cases_Bool (list_all is_small_term row.terms)) [
  | inl small ↦ let right : is_small row.at_least ≡ false = rw small at h in omega (arith, big_number (nat_abs row.at_least) right)
  | inr big ↦ omega (arith, big_terms row.terms big)
]

-- one such number among others
pub big_among : (ts : List Term) (t : Term) (us : List Term) → is_small_term t ≡ false → 2 ^ 120 < sizes (ts ++ t ∷ us)
big_among [] t us h = omega (arith, big_number (nat_abs t.coef) h)
big_among (s ∷ ts) t us h = omega (arith, big_among ts t us h)
