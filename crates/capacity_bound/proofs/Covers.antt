-- Rows that ask for so many opposites of the variables of some pairs. A sum of such rows is one too, and a row of this kind is
-- determined by the pairs and the number.
use Rattle.std.proofs.Common.{◌≡◌, ℕ, ◌+◌, ◌-◌, ◌≤◌, ◌^◌, Bool, true, not, List, [], ◌∷◌, ◌++◌, if◌then◌else◌, length, map, count_by, pos, ◌+ℤ◌, neg_ℤ, refl, sym, ap, ap₂, ◌∙◌, subst, inl, inr, arith, length-append}
use Rattle.std.proofs.lemmas.Bool.{cases_lt}
use Rattle.std.proofs.lemmas.Int.{ints}
use Rattle.std.proofs.lemmas.List.Sums.{sum_by-cons}
use Rattle.hrt_base.specs.declared.literal.Term.{Term}
use Rattle.pb_rows.specs.Terms.{IsRisingFrom, PlainRow, coef_sum, weighing, positive_part}
use Rattle.pb_rows.specs.Points.{Point, true_sum}
use Rattle.pb_rows.specs.Rows.{IsWellFormedRow, add, in_normal_form, literal_row}
use Rattle.pb_rows.specs.Joined.{lost_all, signless_all, turned_sum}
use Rattle.pb_rows.proofs.ByNets.{joined_form_is}
use Rattle.pb_rows.proofs.Forms.{merged_is, put_all_sum_is}
use Rattle.pb_rows.proofs.Order.{determined, put_all_rising, rising_from}
use Rattle.pb_rows.proofs.Signs.{signless_from}
use Rattle.pb_rows.proofs.Values.{put_all_value}
use Rattle.stability_model.specs.Model.{at_most, term}
use Rattle.proof_rules.proofs.Fits.{positive_part_least}
use Rattle.derivation.specs.Deletions.{unit_row}
use Rattle.capacity_bound.proofs.Opposites.{AreOpposites, nothing_lost_all, put_all_opposites}

-- at least d of the variables of the pairs are 0, each counted as often as its pair stands in the list
pub record Covers (row : PlainRow) (ps : List ℕ) (d : ℕ) : Type 0 where
  pub rising : IsRisingFrom 0 row.terms
  pub opposites : AreOpposites row.terms
  pub value : (p : Point) → true_sum p row.terms ≡ count_by (λ v. not (p v)) ps
  pub size : coef_sum row.terms ≡ length ps
  pub degree : row.degree ≡ d

pub covers_normal : (row : PlainRow) (ps : List ℕ) (d : ℕ) → Covers row ps d → length ps ≤ 2 ^ 120 → d ≤ 2 ^ 120 → IsWellFormedRow row
covers_normal row ps d c h k = record { rising = c.rising; fits = record { sum = omega (arith, h, c.size); degree = omega (arith, k, c.degree) } }

-- ---- one row

-- the term `~x` of each pair
abbrev one : ℕ → Term
one p = weighing 1 (record { var = p; neg = true })

ones_opposites : (ps : List ℕ) → AreOpposites (map one ps)
ones_opposites [] = tt
ones_opposites (p ∷ ps) = (refl, ones_opposites ps)

ones_value : (q : Point) (ps : List ℕ) → true_sum q (map one ps) ≡ count_by (λ v. not (q v)) ps
ones_value q [] = refl
ones_value q (p ∷ ps) = ap (λ (n : ℕ). (if not (q p) then 1 else 0) + n) (ones_value q ps) ∙ sym (sum_by-cons (λ v. if not (q v) then 1 else 0) p ps)

ones_size : (ps : List ℕ) → coef_sum (map one ps) ≡ length ps
ones_size [] = refl
ones_size (p ∷ ps) = omega (arith, ones_size ps)

signless_minus : (ps : List ℕ) → signless_all (map (λ p. term (neg_ℤ (pos 1)) p) ps) ≡ map one ps
signless_minus [] = refl
signless_minus (p ∷ ps) = ap (λ (ts : List Term). one p ∷ ts) (signless_minus ps)

turned_minus : (ps : List ℕ) → turned_sum (map (λ p. term (neg_ℤ (pos 1)) p) ps) ≡ length ps
turned_minus [] = refl
turned_minus (p ∷ ps) = omega (arith, turned_minus ps)

positive_part_minus : (c n : ℕ) → positive_part (neg_ℤ (pos c) +ℤ pos n) ≡ n - c
positive_part_minus c n = elim (cases_lt n c) [
  | inl less ↦ let z : positive_part (neg_ℤ (pos c) +ℤ pos n) ≤ 0 = positive_part_least (neg_ℤ (pos c) +ℤ pos n) 0 (omega (arith, ints)) in omega arith
  | inr more ↦ let e : neg_ℤ (pos c) +ℤ pos n ≡ pos (n - c) = omega (arith, ints) in ap positive_part e
]

-- at most c of the pairs: at least as many opposites as there are more pairs
pub covers_at_most : (c : ℕ) (ps : List ℕ) → Covers (in_normal_form (at_most c ps)) ps (length ps - c)
covers_at_most c ps =
    let ts : List Term = map (λ p. term (neg_ℤ (pos 1)) p) ps in
    let us : List Term = signless_all ts in
    let opposite : AreOpposites us = subst AreOpposites (sym (signless_minus ps)) (ones_opposites ps) in
    let none : lost_all [] us ≡ 0 = nothing_lost_all [] us tt opposite in
    subst (λ (row : PlainRow). Covers row ps (length ps - c)) (joined_form_is ts (neg_ℤ (pos c))) (record {
      rising = put_all_rising 0 [] us (signless_from ts) tt;
      opposites = put_all_opposites [] us tt opposite;
      value = λ p. omega (arith, put_all_value p [] us, none, ap (true_sum p) (signless_minus ps), ones_value p ps);
      size = omega (arith, put_all_sum_is [] us, none, ap coef_sum (signless_minus ps), ones_size ps);
      degree = omega (arith, none, ap (λ (n : ℕ). positive_part (neg_ℤ (pos c) +ℤ pos n)) (turned_minus ps), positive_part_minus c (length ps));
    })

pub covers_unit : (p : ℕ) → Covers (unit_row p) (p ∷ []) 1
covers_unit p = record { rising = (omega arith, omega arith, tt); opposites = (refl, tt); value = λ q. ones_value q (p ∷ []); size = refl; degree = refl }

pub covers_axiom : (p : ℕ) → Covers (literal_row (record { var = p; neg = true })) (p ∷ []) 0
covers_axiom p = record { rising = (omega arith, omega arith, tt); opposites = (refl, tt); value = λ q. ones_value q (p ∷ []); size = refl; degree = refl }

-- ---- two rows

count_append : (t : ℕ → Bool) (xs ys : List ℕ) → count_by t (xs ++ ys) ≡ count_by t xs + count_by t ys
count_append t [] ys = omega arith
count_append t (x ∷ xs) ys =
    omega (arith, count_append t xs ys, sum_by-cons (λ z. if t z then 1 else 0) x (xs ++ ys), sum_by-cons (λ z. if t z then 1 else 0) x xs)

pub covers_add : (a b : PlainRow) (ps qs : List ℕ) (d e : ℕ) → Covers a ps d → Covers b qs e → length ps + length qs ≤ 2 ^ 120 → d + e ≤ 2 ^ 120 → Covers (add a b) (ps ++ qs) (d + e)
covers_add a b ps qs d e c k h i =
    let none : lost_all a.terms b.terms ≡ 0 = nothing_lost_all a.terms b.terms c.opposites k.opposites in
    subst (λ (row : PlainRow). Covers row (ps ++ qs) (d + e)) (merged_is a b (covers_normal a ps d c (omega arith) (omega arith)) (covers_normal b qs e k (omega arith) (omega arith))) (record {
      rising = put_all_rising 0 a.terms b.terms (rising_from 0 b.terms k.rising) c.rising;
      opposites = put_all_opposites a.terms b.terms c.opposites k.opposites;
      value = λ p. omega (arith, put_all_value p a.terms b.terms, none, c.value p, k.value p, count_append (λ v. not (p v)) ps qs);
      size = omega (arith, put_all_sum_is a.terms b.terms, none, c.size, k.size, length-append ps qs);
      degree = omega (arith, none, c.degree, k.degree);
    })

-- ---- the same pairs, the same row

pub covers_unique : (a b : PlainRow) (ps qs : List ℕ) (d : ℕ) → Covers a ps d → Covers b qs d → ((t : ℕ → Bool) → count_by t ps ≡ count_by t qs) → a ≡ b
covers_unique a b ps qs d c k same =
    ap₂ (λ (ts : List Term) (n : ℕ). record { terms = ts; degree = n })
    (determined 0 0 a.terms b.terms 0 0 c.rising k.rising (λ p. omega (arith, c.value p, k.value p, same (λ v. not (p v))))).0
    (c.degree ∙ sym k.degree)
