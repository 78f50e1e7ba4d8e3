-- A merge gives the sum.
use Rattle.std.proofs.Common.{◌≡◌, ◌≤◌, ◌<◌, ◌↔◌, IsTrue, nat_le, ◌∙◌, ◌^◌, ◌*◌, ◌+◌, ◌-◌, inl, inr, sym, subst, ℕ, zero, suc, ℤ, pos, negsuc, List, [], ◌∷◌, ◌++◌, refl, ap, ap₂, arith}
use Rattle.std.proofs.lemmas.Bool.{cases_Bool, cases_order, le-leb, leb-true}
use Rattle.hrt_base.specs.declared.literal.Lit.{Lit}
use Rattle.hrt_base.specs.declared.literal.Term.{Term}
use Rattle.pb_rows.specs.Terms.{IsPositive, IsRisingFrom, PlainRow, coef_sum, positive_part}
use Rattle.pb_rows.specs.Rows.{AddsValues, Fits, HoldsWithBoth, IsWellFormedRow, add}
use Rattle.pb_rows.specs.Joined.{AreFrom, are_alike, joined_form, lost, lost_all, lost_between, merged, met, put, put_all, remains, signless, signless_all, turned, turned_sum}
use Rattle.pb_rows.proofs.Changes.{merged_exact, merged_sound, row_of}
use Rattle.pb_rows.proofs.Order.{coef_sum-append, coef_sum-remains, determined, put_all_rising, rising_from}
use Rattle.pb_rows.proofs.ByNets.{joined_form_is}
use Rattle.pb_rows.proofs.Values.{put_above, put_all_value, put_at, put_below, true_sum-append}

signless_positive : (a : ℤ) (l : Lit) → IsPositive a → signless (record { coef = a; lit = l }) ≡ record { coef = a; lit = l } ∷ []
signless_positive (pos zero) l h = absurd (omega arith)
signless_positive (pos (suc n)) l h = refl
signless_positive (negsuc n) l h = absurd h

unsigned : (ts : List Term) → AreFrom 0 ts → signless_all ts ≡ ts
unsigned [] a = refl
unsigned (t ∷ ts) a = ap₂ (λ (us vs : List Term). us ++ vs) (signless_positive t.coef t.lit a.0.1) (unsigned ts a.1)

turned_none : (a : ℤ) (l : Lit) → IsPositive a → turned (record { coef = a; lit = l }) ≡ 0
turned_none (pos n) l h = refl
turned_none (negsuc n) l h = absurd h

nothing_turned : (ts : List Term) → AreFrom 0 ts → turned_sum ts ≡ 0
nothing_turned [] a = refl
nothing_turned (t ∷ ts) a = omega (arith, turned_none t.coef t.lit a.0.1, nothing_turned ts a.1)

from_append : (ts us : List Term) → AreFrom 0 ts → AreFrom 0 us → AreFrom 0 (ts ++ us)
from_append [] us a b = b
from_append (t ∷ ts) us a b = (a.0, from_append ts us a.1 b)

module _ (ts us : List Term) (r : IsRisingFrom 0 ts) (s : IsRisingFrom 0 us) where
  joined_from : AreFrom 0 (ts ++ us)
  joined_from = from_append ts us (rising_from 0 ts r) (rising_from 0 us s)

  same_join : (put_all ts us ≡ put_all [] (ts ++ us)) × (lost_all ts us ≡ lost_all [] (ts ++ us))
  same_join =
      determined 0 0 (put_all ts us) (put_all [] (ts ++ us)) (lost_all ts us) (lost_all [] (ts ++ us)) (put_all_rising 0 ts us (rising_from 0 us s) r)
      (put_all_rising 0 [] (ts ++ us) joined_from tt)
      (λ p. omega (arith, put_all_value p ts us, put_all_value p [] (ts ++ us), true_sum-append p ts us))

joins_to : (a b : PlainRow) → IsWellFormedRow a → IsWellFormedRow b → merged a b ≡ joined_form (a.terms ++ b.terms) (pos (a.degree + b.degree))
joins_to a b m n =
    let from = joined_from a.terms b.terms m.rising n.rising in
    let same = same_join a.terms b.terms m.rising n.rising in
    let d : (a.degree + b.degree) + turned_sum (a.terms ++ b.terms) ≡ a.degree + b.degree = omega (arith, nothing_turned (a.terms ++ b.terms) from) in
    rw (unsigned (a.terms ++ b.terms) from, d) (ap₂ row_of same.0 (ap (λ (k : ℕ). (a.degree + b.degree) - k) same.1))

pub merged_is : (a b : PlainRow) → IsWellFormedRow a → IsWellFormedRow b → merged a b ≡ add a b
merged_is a b m n = joins_to a b m n ∙ joined_form_is (a.terms ++ b.terms) (pos (a.degree + b.degree))

-- of a row that the code made
pub made_sum : (r a b : PlainRow) → IsWellFormedRow a → IsWellFormedRow b → r ≡ merged a b → r ≡ add a b
made_sum r a b m n e = e ∙ merged_is a b m n

-- the order of the operands doesn't matter
pub add_commutes : (a b : PlainRow) → IsWellFormedRow a → IsWellFormedRow b → add a b ≡ add b a
add_commutes a b m n =
    let same = determined 0 0 (put_all a.terms b.terms) (put_all b.terms a.terms) (lost_all a.terms b.terms) (lost_all b.terms a.terms)
    (put_all_rising 0 a.terms b.terms (rising_from 0 b.terms n.rising) m.rising)
    (put_all_rising 0 b.terms a.terms (rising_from 0 a.terms m.rising) n.rising)
    (λ p. omega (arith, put_all_value p a.terms b.terms, put_all_value p b.terms a.terms)) in
    sym (merged_is a b m n) ∙ ap₂ row_of same.0 (omega (arith, same.1)) ∙ merged_is b a n m

-- the sum holds exactly where the values of both reach both degrees
pub add_exact : (a b s : PlainRow) → IsWellFormedRow a → IsWellFormedRow b → s ≡ add a b → AddsValues a b s
add_exact a b s m n e = merged_exact a b s (e ∙ sym (merged_is a b m n))

pub add_sound : (a b s : PlainRow) → IsWellFormedRow a → IsWellFormedRow b → s ≡ add a b → HoldsWithBoth a b s
add_sound a b s m n e = merged_sound a b s (e ∙ sym (merged_is a b m n))

pub add_symmetric : (a b s : PlainRow) → IsWellFormedRow a → IsWellFormedRow b → s ≡ add a b → s ≡ add b a
add_symmetric a b s m n e = e ∙ add_commutes a b m n

-- ---- how large the sum is

met_sum : (t u : Term) → coef_sum (met t u) + 2 * lost_between t u ≡ positive_part t.coef + positive_part u.coef
met_sum t u = elim (cases_Bool (are_alike t u)) [
  | inl e ↦ rw e (omega arith)
  | inr e ↦
      let x : ℕ = positive_part u.coef - positive_part t.coef in
      let y : ℕ = positive_part t.coef - positive_part u.coef in
      rw e (omega (arith, coef_sum-append (remains x u.lit) (remains y t.lit), coef_sum-remains x u.lit, coef_sum-remains y t.lit))
]

put_sum_is : (t : Term) (us : List Term) → coef_sum (put t us) + 2 * lost t us ≡ positive_part t.coef + coef_sum us
put_sum_is t [] = omega arith
put_sum_is t (u ∷ us) = elim (cases_order t.lit.var u.lit.var) [
  | inl e ↦ rw (put_at t u us e).0 (rw (put_at t u us e).1 (omega (arith, coef_sum-append (met t u) us, met_sum t u)))
  | inr (inl h) ↦ rw (put_below t u us h).0 (rw (put_below t u us h).1 (omega arith))
  | inr (inr h) ↦ rw (put_above t u us h).0 (rw (put_above t u us h).1 (omega (arith, put_sum_is t us)))
]

pub put_all_sum_is : (us ts : List Term) → coef_sum (put_all us ts) + 2 * lost_all us ts ≡ coef_sum us + coef_sum ts
put_all_sum_is us [] = omega arith
put_all_sum_is us (t ∷ ts) = omega (arith, put_all_sum_is (put t us) ts, put_sum_is t us)

-- sizes that are known before the sum is made
pub fits_sum : (a b : PlainRow) → IsWellFormedRow a → IsWellFormedRow b → ((coef_sum a.terms + coef_sum b.terms) - 2 * lost_all a.terms b.terms ≤ 2 ^ 120) × ((a.degree + b.degree) - lost_all a.terms b.terms ≤ 2 ^ 120) → Fits (add a b)
fits_sum a b m n h = subst Fits (merged_is a b m n) (record { sum = omega (arith, h.0, put_all_sum_is a.terms b.terms); degree = h.1 })

pub sum_fits : (a b : PlainRow) → IsWellFormedRow a → IsWellFormedRow b → Fits (add a b) → ((coef_sum a.terms + coef_sum b.terms) - 2 * lost_all a.terms b.terms ≤ 2 ^ 120) × ((a.degree + b.degree) - lost_all a.terms b.terms ≤ 2 ^ 120)
sum_fits a b m n h =
    let f : Fits (merged a b) = subst Fits (sym (merged_is a b m n)) h in
    (omega (arith, f.sum, put_all_sum_is a.terms b.terms), f.degree)

-- the code's test of the degree, where the coefficients fit, and of coefficients that don't
pub tests_degree : (a b : PlainRow) → IsWellFormedRow a → IsWellFormedRow b → (coef_sum a.terms + coef_sum b.terms) - 2 * lost_all a.terms b.terms ≤ 2 ^ 120 → IsTrue (nat_le ((a.degree + b.degree) - lost_all a.terms b.terms) (2 ^ 120)) ↔ Fits (add a b)
tests_degree a b m n h = (
  λ t. fits_sum a b m n (h, leb-true ((a.degree + b.degree) - lost_all a.terms b.terms) (2 ^ 120) t),
  λ f. le-leb ((a.degree + b.degree) - lost_all a.terms b.terms) (2 ^ 120) (sum_fits a b m n f).1,
)

pub tests_sum : (a b : PlainRow) (n : ℕ) → IsWellFormedRow a → IsWellFormedRow b → n ≡ (coef_sum a.terms + coef_sum b.terms) - 2 * lost_all a.terms b.terms → 2 ^ 120 < n → IsTrue (nat_le n (2 ^ 120)) ↔ Fits (add a b)
tests_sum a b n k m e h = (λ t. absurd (omega (arith, leb-true n (2 ^ 120) t)), λ f. absurd (omega (arith, (sum_fits a b k m f).0)))

-- a sum that fits is a row
pub merged_normal : (a b : PlainRow) → IsWellFormedRow a → IsWellFormedRow b → Fits (add a b) → IsWellFormedRow (merged a b)
merged_normal a b m n f = record {
  rising = put_all_rising 0 a.terms b.terms (rising_from 0 b.terms n.rising) m.rising;
  fits = subst Fits (sym (merged_is a b m n)) f;
}
