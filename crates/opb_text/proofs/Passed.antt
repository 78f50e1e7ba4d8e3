-- Numbers of 128 bits that are passed on.
use mir.Syntax.{w128}
use mir.Val.{of_z, to_z}
use Rattle.std.proofs.Common.{◌≡◌, ◌∙◌, ℕ, zero, suc, ◌<◌, ◌^◌, ℤ, pos, negsuc, neg_ℤ, ◌-ℤ◌, refl, ap, arith}
use Rattle.std.proofs.lemmas.Int.{ints, to_z-of_z, to_z_pos}

pub passed : (z : ℤ) (n : ℕ) → z ≡ pos n → n < 2 ^ 127 → to_z w128 (of_z w128 z) ≡ pos n
passed z n e h = rw e (to_z_pos w128 n h)

below_zero : (n : ℕ) → n < 2 ^ 127 → to_z w128 (of_z w128 (neg_ℤ (pos n))) ≡ neg_ℤ (pos n)
below_zero zero h = refl
below_zero (suc n) h = to_z-of_z w128 (negsuc n) (omega arith)

pub minus_passed : (z : ℤ) (n : ℕ) → z ≡ pos n → n < 2 ^ 127 → to_z w128 (of_z w128 (pos 0 -ℤ to_z w128 (of_z w128 z))) ≡ neg_ℤ (pos n)
minus_passed z n e h =
    let inner : pos 0 -ℤ to_z w128 (of_z w128 z) ≡ neg_ℤ (pos n) = ap (λ (y : ℤ). pos 0 -ℤ y) (passed z n e h) ∙ omega (arith, ints) in
    ap (λ (y : ℤ). to_z w128 (of_z w128 y)) inner ∙ below_zero n h
