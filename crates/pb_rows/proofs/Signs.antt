-- Terms without signs.
use mir.Syntax.{w128}
use mir.Val.{SFits, of_z, to_z}
use Rattle.std.proofs.Common.{◌≡◌, ◌∙◌, ◌≤◌, ◌<◌, ◌+◌, inl, inr, ℕ, zero, suc, ℤ, pos, negsuc, ◌+ℤ◌, ◌≤ℤ◌, not, List, [], ◌∷◌, ◌++◌, refl, ap, sym, arith, take, length, get_or, add-one, append_assoc}
use Rattle.std.specs.Int.RustNames.{unsigned_abs}
use Rattle.std.specs.List.{sum_by}
use Rattle.std.proofs.lemmas.Bool.{cases_Bool}
use Rattle.std.proofs.lemmas.Int.{ints, to_z-of_z}
use Rattle.std.proofs.lemmas.List.{append-nil}
use Rattle.std.proofs.lemmas.List.Recursion.{is_sum_by}
use Rattle.std.proofs.lemmas.List.Sums.{sum_by_more, sum_by_more_le, sum_by-take-le}
use Rattle.hrt_base.specs.declared.literal.Lit.{Lit}
use Rattle.hrt_base.specs.declared.literal.Term.{Term}
use Rattle.pb_rows.specs.Terms.{coef_sum, opposite_lit, weighing, positive_part}
use Rattle.pb_rows.specs.Points.{Point, is_true_at, share, signed_share, true_sum, value_at}
use Rattle.pb_rows.specs.Normal.{all_sizes, sizes}
use Rattle.pb_rows.specs.Joined.{AreFrom, is_negative, remains, signless, signless_all, signless_lit, turned, turned_sum}
use Rattle.pb_rows.proofs.Order.{coef_sum-append, coef_sum-remains}
use Rattle.pb_rows.proofs.Values.{remains_value, true_sum-append}

-- ---- step by step

signless_next : (ts : List Term) (i : ℕ) (d : Term) → i < length ts → signless_all (take (suc i) ts) ≡ signless_all (take i ts) ++ signless (get_or ts i d)
signless_next [] i d h = absurd (omega arith)
signless_next (t ∷ ts) zero d h = append-nil (signless t)
signless_next (t ∷ ts) (suc i) d h =
    ap (λ (us : List Term). signless t ++ us) (signless_next ts i d (omega arith)) ∙ sym (append_assoc (signless t) (signless_all (take i ts)) (signless (get_or ts i d)))

pub signless_more : (ts : List Term) (i : ℕ) (d : Term) → i < length ts → signless_all (take (i + 1) ts) ≡ signless_all (take i ts) ++ signless (get_or ts i d)
signless_more ts i d h = rw add-one (signless_next ts i d h)

sizes_is : (ts : List Term) → sizes ts ≡ sum_by (λ (t : Term). unsigned_abs t.coef) ts
sizes_is = is_sum_by sizes (λ (t : Term). unsigned_abs t.coef) refl (λ t ts. refl)

pub sizes_more : (ts : List Term) (i : ℕ) (d : Term) → i < length ts → sizes (take (i + 1) ts) ≡ sizes (take i ts) + unsigned_abs (get_or ts i d).coef
sizes_more ts i d h = rw (sizes_is (take (i + 1) ts), sizes_is (take i ts)) (sum_by_more (λ (t : Term). unsigned_abs t.coef) ts i d h)

pub sizes_more_le : (ts : List Term) (i : ℕ) (d : Term) → i < length ts → sizes (take i ts) + unsigned_abs (get_or ts i d).coef ≤ sizes ts
sizes_more_le ts i d h = rw (sizes_is (take i ts), sizes_is ts) (sum_by_more_le (λ (t : Term). unsigned_abs t.coef) ts i d h)

turned_is : (ts : List Term) → turned_sum ts ≡ sum_by turned ts
turned_is = is_sum_by turned_sum turned refl (λ t ts. refl)

pub turned_more : (ts : List Term) (i : ℕ) (d : Term) → i < length ts → turned_sum (take (i + 1) ts) ≡ turned_sum (take i ts) + turned (get_or ts i d)
turned_more ts i d h = rw (turned_is (take (i + 1) ts), turned_is (take i ts)) (sum_by_more turned ts i d h)

pub turned_more_le : (ts : List Term) (i : ℕ) (d : Term) → i < length ts → turned_sum (take i ts) + turned (get_or ts i d) ≤ turned_sum ts
turned_more_le ts i d h = rw (turned_is (take i ts), turned_is ts) (sum_by_more_le turned ts i d h)

pub sizes_take_le : (ts : List Term) (i : ℕ) → sizes (take i ts) ≤ sizes ts
sizes_take_le ts i = rw (sizes_is (take i ts), sizes_is ts) (sum_by-take-le (λ (t : Term). unsigned_abs t.coef) ts i)

pub turned_take_le : (ts : List Term) (i : ℕ) → turned_sum (take i ts) ≤ turned_sum ts
turned_take_le ts i = rw (turned_is (take i ts), turned_is ts) (sum_by-take-le turned ts i)

-- ---- bounds

turned_le : (t : Term) → turned t ≤ unsigned_abs t.coef
turned_le t = elim (cases_Bool (is_negative t.coef)) [ inl e ↦ rw e (omega arith) | inr e ↦ rw e (omega arith) ]

pub turned_sum_le : (ts : List Term) → turned_sum ts ≤ sizes ts
turned_sum_le [] = omega arith
turned_sum_le (t ∷ ts) = omega (arith, turned_le t, turned_sum_le ts)

pub signless_sum : (ts : List Term) → coef_sum (signless_all ts) ≡ sizes ts
signless_sum [] = refl
signless_sum (t ∷ ts) = omega (arith, coef_sum-append (signless t) (signless_all ts), coef_sum-remains (unsigned_abs t.coef) (signless_lit t), signless_sum ts)

from_append : (low : ℕ) (ts us : List Term) → AreFrom low ts → AreFrom low us → AreFrom low (ts ++ us)
from_append low [] us a b = b
from_append low (t ∷ ts) us a b = (a.0, from_append low ts us a.1 b)

remains_from : (n : ℕ) (l : Lit) → AreFrom 0 (remains n l)
remains_from zero l = tt
remains_from (suc n) l = ((omega arith, omega arith), tt)

pub signless_from : (ts : List Term) → AreFrom 0 (signless_all ts)
signless_from [] = tt
signless_from (t ∷ ts) = from_append 0 (signless t) (signless_all ts) (remains_from (unsigned_abs t.coef) (signless_lit t)) (signless_from ts)

-- ---- values

term : ℤ → Lit → Term
term a l = record { coef = a; lit = l }

SignlessValue : Point → ℤ → Lit → Type 0
SignlessValue p a l = signed_share p (term a l) +ℤ pos (turned (term a l)) ≡ pos (share p (weighing (unsigned_abs a) (signless_lit (term a l))))

pub opposite_value : (p : Point) (l : Lit) → is_true_at p (opposite_lit l) ≡ not (is_true_at p l)
opposite_value p l = elim (cases_Bool l.neg) [
  | inl n ↦ elim (cases_Bool (p l.var)) [ inl e ↦ rw (n, e) refl | inr e ↦ rw (n, e) refl ]
  | inr n ↦ rw n refl
]

signless_at : (p : Point) (a : ℤ) (l : Lit) → SignlessValue p a l
unfolding SignlessValue term
signless_at p (pos m) l = elim (cases_Bool (is_true_at p l)) [ inl e ↦ rw e (omega (arith, ints)) | inr e ↦ rw e (omega (arith, ints)) ]
signless_at p (negsuc m) l =
    rw (opposite_value p l) (elim (cases_Bool (is_true_at p l)) [ inl e ↦ rw e (omega (arith, ints)) | inr e ↦ rw e (omega (arith, ints)) ])

signless_value : (p : Point) (t : Term) → signed_share p t +ℤ pos (turned t) ≡ pos (share p (weighing (unsigned_abs t.coef) (signless_lit t)))
unfolding SignlessValue term
signless_value p t = signless_at p t.coef t.lit

pub signless_values : (p : Point) (ts : List Term) → value_at p ts +ℤ pos (turned_sum ts) ≡ pos (true_sum p (signless_all ts))
signless_values p [] = refl
signless_values p (t ∷ ts) =
    rw (true_sum-append p (signless t) (signless_all ts), remains_value p (unsigned_abs t.coef) (signless_lit t))
    (omega (arith, ints, signless_value p t, signless_values p ts))

positive_part_reaches : (z : ℤ) (n : ℕ) → (positive_part z ≤ n → z ≤ℤ pos n) × (z ≤ℤ pos n → positive_part z ≤ n)
positive_part_reaches (pos m) n = (λ h. omega (arith, ints, h), λ h. omega (arith, ints, h))
positive_part_reaches (negsuc m) n = (λ h. omega (arith, ints), λ h. omega arith)

with_abs : (z : ℤ) (n : ℕ) → (z +ℤ pos n) ≤ℤ pos (unsigned_abs z + n)
with_abs (pos m) n = omega (arith, ints)
with_abs (negsuc m) n = omega (arith, ints)

pub positive_part_le : (z : ℤ) (n : ℕ) → positive_part (z +ℤ pos n) ≤ unsigned_abs z + n
positive_part_le z n = (positive_part_reaches (z +ℤ pos n) (unsigned_abs z + n)).1 (with_abs z n)

pub positive_part_passed : (z : ℤ) (n : ℕ) → SFits w128 z → positive_part (to_z w128 (of_z w128 z) +ℤ pos n) ≡ positive_part (z +ℤ pos n)
positive_part_passed z n h = ap (λ (x : ℤ). positive_part (x +ℤ pos n)) (to_z-of_z w128 z h)

pub sizes_passed : (ts : List Term) (z : ℤ) → SFits w128 z → all_sizes ts (to_z w128 (of_z w128 z)) ≡ all_sizes ts z
sizes_passed ts z h = ap (all_sizes ts) (to_z-of_z w128 z h)
