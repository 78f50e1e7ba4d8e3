-- Two bounds that are read make a claim.
use Rattle.std.proofs.Common.{◌≡◌, Bool, true, false, ◌&&◌, ℤ, Option, Some, None, refl, if◌then◌else◌}
use Rattle.row_text.specs.declared.readings.Reading.TheVariants.{Unspelled, TooBig, Value}
use Rattle.row_text.specs.Numbers.{both}
use Rattle.row_text.specs.Readings.{reading}
use Rattle.proof_lines.specs.declared.line.Claim.TheVariants.{Bounds}
use Rattle.proof_lines.specs.Claims.{joined}
use Rattle.proof_lines.specs.Spelling.{is_small_bound, is_small_claim}

by_sizes : (p q : Bool) (l u : Option ℤ) → joined (if p then Value l else TooBig) (if q then Value u else TooBig) ≡ (if p && q then Value (Bounds l u) else TooBig)
by_sizes true true l u = refl
by_sizes true false l u = refl
by_sizes false true l u = refl
by_sizes false false l u = refl

unspelled_upper : (p : Bool) (l : Option ℤ) → joined (if p then Value l else TooBig) Unspelled ≡ Unspelled
unspelled_upper true l = refl
unspelled_upper false l = refl

pub joined-readings : (l u : Option (Option ℤ)) → joined (reading is_small_bound l) (reading is_small_bound u) ≡ reading is_small_claim (both Bounds l u)
joined-readings None u = refl
joined-readings (Some l) None = unspelled_upper (is_small_bound l) l
joined-readings (Some l) (Some u) = by_sizes (is_small_bound l) (is_small_bound u) l u
