-- The value of the objective, term by term.
use Rattle.std.proofs.Common.{◌≡◌, ◌-ℤ◌, subst, ap₂, ℕ, zero, suc, ◌+◌, ◌<◌, ◌≤◌, ◌^◌, Bool, true, false, if◌then◌else◌, List, [], ◌∷◌, ◌++◌, length, get_or, take, ℤ, pos, negsuc, ◌+ℤ◌, ◌≤ℤ◌, neg_ℤ, sym, ap, ◌∙◌, add-one, arith}
use mir.Val.{SFits, of_z, to_z}
use Rattle.std.specs.Int.{w128}
use Rattle.std.proofs.lemmas.Int.{ints, to_z-of_z}
use Rattle.std.proofs.lemmas.List.{map_more}
use Rattle.std.specs.Int.RustNames.{unsigned_abs}
use Rattle.hrt_base.specs.declared.literal.Term.{Term}
use Rattle.pb_rows.specs.Points.{Point, is_true_at, signed_share, value_at}
use Rattle.pb_rows.specs.Normal.{all_sizes, sizes}
use Rattle.pb_rows.proofs.Signs.{sizes_more_le}
use Rattle.proof_rules.specs.States.{at_most_row, minus_terms}
use Rattle.pb_rows.specs.Terms.{PlainRow}
use Rattle.pb_rows.specs.Rows.{Fits, add}
use Rattle.proof_rules.proofs.Fits.{fits-solution_row, sizes-minus}
use Rattle.proof_rules.proofs.Canonical.{solution_row-made}

value_suc : (p : Point) (ts : List Term) (i : ℕ) (d : Term) → i < length ts → value_at p (take (suc i) ts) ≡ value_at p (take i ts) +ℤ signed_share p (get_or ts i d)
value_suc p [] i d h = absurd (omega arith)
value_suc p (t ∷ ts) zero d h = omega (arith, ints)
value_suc p (t ∷ ts) (suc i) d h = let e : value_at p (take (suc i) ts) ≡ value_at p (take i ts) +ℤ signed_share p (get_or ts i d) = value_suc p ts i d (omega arith) in omega (arith, ints)

pub value_more : (p : Point) (ts : List Term) (i : ℕ) (d : Term) → i < length ts → value_at p (take (i + 1) ts) ≡ value_at p (take i ts) +ℤ signed_share p (get_or ts i d)
value_more p ts i d h = rw add-one (value_suc p ts i d h)

-- no further from 0 than the sizes together
within_step : (b : Bool) (c v : ℤ) (s : ℕ) → (neg_ℤ (pos s) ≤ℤ v) × (v ≤ℤ pos s) → (neg_ℤ (pos (unsigned_abs c + s)) ≤ℤ ((if b then c else pos 0) +ℤ v)) × (((if b then c else pos 0) +ℤ v) ≤ℤ pos (unsigned_abs c + s))
within_step true c v s h = (omega (arith, ints, h.0), omega (arith, ints, h.1))
within_step false c v s h = (omega (arith, ints, h.0), omega (arith, ints, h.1))

pub value_within : (p : Point) (ts : List Term) → (neg_ℤ (pos (sizes ts)) ≤ℤ value_at p ts) × (value_at p ts ≤ℤ pos (sizes ts))
value_within p [] = (omega (arith, ints), omega (arith, ints))
value_within p (t ∷ ts) = within_step (is_true_at p t.lit) t.coef (value_at p ts) (sizes ts) (value_within p ts)

-- ---- what fits

pub small_fits : (z : ℤ) (n : ℕ) → (neg_ℤ (pos n) ≤ℤ z) × (z ≤ℤ pos n) → n ≤ 2 ^ 119 → SFits w128 z
small_fits (pos m) n h k = record { sfits = omega (arith, ints, h.1, k) }
small_fits (negsuc m) n h k = record { sfits = omega (arith, ints, h.0, k) }

coef_within : (z : ℤ) → (neg_ℤ (pos (unsigned_abs z)) ≤ℤ z) × (z ≤ℤ pos (unsigned_abs z))
coef_within z = (omega (arith, ints), omega (arith, ints))

minus_within : (z : ℤ) (n : ℕ) → (neg_ℤ (pos n) ≤ℤ z) × (z ≤ℤ pos n) → (neg_ℤ (pos n) ≤ℤ (pos 0 -ℤ z)) × ((pos 0 -ℤ z) ≤ℤ pos n)
minus_within z n h = (omega (arith, ints, h.1), omega (arith, ints, h.0))

pub coef_fits : (ts : List Term) (i : ℕ) (d : Term) → i < length ts → sizes ts ≤ 2 ^ 119 → SFits w128 (get_or ts i d).coef
coef_fits ts i d h k = small_fits (get_or ts i d).coef (unsigned_abs (get_or ts i d).coef) (coef_within (get_or ts i d).coef) (omega (arith, k, sizes_more_le ts i d h))

pub minus_fits : (ts : List Term) (i : ℕ) (d : Term) → i < length ts → sizes ts ≤ 2 ^ 119 → SFits w128 (pos 0 -ℤ (get_or ts i d).coef)
minus_fits ts i d h k =
    small_fits (pos 0 -ℤ (get_or ts i d).coef) (unsigned_abs (get_or ts i d).coef) (minus_within (get_or ts i d).coef (unsigned_abs (get_or ts i d).coef) (coef_within (get_or ts i d).coef))
    (omega (arith, k, sizes_more_le ts i d h))

pub value_fits : (p : Point) (ts : List Term) (v : ℤ) → v ≡ value_at p ts → sizes ts ≤ 2 ^ 119 → SFits w128 v
value_fits p ts v e k = subst (SFits w128) (sym e) (small_fits (value_at p ts) (sizes ts) (value_within p ts) k)

pub minus_value_fits : (p : Point) (ts : List Term) (v : ℤ) → v ≡ value_at p ts → sizes ts ≤ 2 ^ 119 → SFits w128 (pos 0 -ℤ v)
minus_value_fits p ts v e k = subst (λ (z : ℤ). SFits w128 (pos 0 -ℤ z)) (sym e) (small_fits (pos 0 -ℤ value_at p ts) (sizes ts) (minus_within (value_at p ts) (sizes ts) (value_within p ts)) k)

-- ---- one term more

pub turned : (z : ℤ) → SFits w128 z → SFits w128 (pos 0 -ℤ z) → to_z w128 (of_z w128 (pos 0 -ℤ to_z w128 (of_z w128 z))) ≡ neg_ℤ z
turned z g m = ap (λ (y : ℤ). to_z w128 (of_z w128 (pos 0 -ℤ y))) (to_z-of_z w128 z g) ∙ to_z-of_z w128 (pos 0 -ℤ z) m ∙ omega (arith, ints)

pub next_minus : (ts out minus : List Term) (i : ℕ) (d : Term) → i < length ts → sizes ts ≤ 2 ^ 119 → out ≡ minus_terms (take i ts) →
    minus ≡ out ++ record { coef = to_z w128 (of_z w128 (pos 0 -ℤ to_z w128 (of_z w128 (get_or ts i d).coef))); lit = (get_or ts i d).lit } ∷ [] →
    minus ≡ minus_terms (take (i + 1) ts)
next_minus ts out minus i d h k e f =
    f ∙ ap₂ (λ (us : List Term) (z : ℤ). us ++ record { coef = z; lit = (get_or ts i d).lit } ∷ []) e (turned (get_or ts i d).coef (coef_fits ts i d h k) (minus_fits ts i d h k))
    ∙ sym (map_more (λ (t : Term). record { coef = neg_ℤ t.coef; lit = t.lit }) ts i d h)

-- the value of one term more
pub next_value : (p : Point) (ts : List Term) (i : ℕ) (d : Term) (v s : ℤ) → i < length ts → v ≡ value_at p (take i ts) → s ≡ signed_share p (get_or ts i d) → v +ℤ s ≡ value_at p (take (i + 1) ts)
next_value p ts i d v s h e f = ap₂ (λ (a b : ℤ). a +ℤ b) e f ∙ sym (value_more p ts i d h)

-- ---- the row that the objective is at most a value

size_within : (z : ℤ) (n : ℕ) → (neg_ℤ (pos n) ≤ℤ z) × (z ≤ℤ pos n) → unsigned_abs (neg_ℤ z) ≤ n
size_within (pos zero) n h = omega arith
size_within (pos (suc m)) n h = omega (arith, ints, h.1)
size_within (negsuc m) n h = omega (arith, ints, h.0)

pub minus_sizes : (p : Point) (ts us : List Term) (v w : ℤ) → us ≡ minus_terms ts → v ≡ value_at p ts → w ≡ neg_ℤ v → sizes ts ≤ 2 ^ 119 → all_sizes us w ≤ 2 ^ 120
minus_sizes p ts us v w e f g h =
    let a : unsigned_abs w ≤ sizes ts = rw (g, f) (size_within (value_at p ts) (sizes ts) (value_within p ts)) in
    let b : sizes us ≡ sizes ts = rw e (sizes-minus ts) in
    omega arith

module _ (p : Point) (ts : List Term) (v : ℤ) (row one : PlainRow) (reached : v ≡ value_at p ts) (is : row ≡ at_most_row ts v) (more : one ≡ record { terms = []; degree = 1 }) (small : sizes ts ≤ 2 ^ 119) where
  pub improved : add row one ≡ at_most_row ts (v -ℤ pos 1)
  improved =
      ap₂ add (is ∙ ap (at_most_row ts) reached) more ∙ solution_row-made p ts (omega (arith, small)) ∙ ap (λ (z : ℤ). at_most_row ts (z -ℤ pos 1)) (sym reached)

  pub improved_fits : Fits (add row one)
  improved_fits =
      subst Fits (sym improved) (subst (λ (z : ℤ). Fits (at_most_row ts (z -ℤ pos 1))) (sym reached) (fits-solution_row p ts small))
