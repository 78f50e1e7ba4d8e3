-- Small numbers fit, so that they are passed as they are.
use mir.Val.{SFits, of_z, to_z}
use Rattle.std.proofs.Common.{◌≡◌, suc, ◌^◌, ℤ, pos, negsuc, true, arith}
use Rattle.std.specs.Int.{w128}
use Rattle.std.specs.List.{list_all}
use Rattle.std.proofs.lemmas.Bool.{and_parts, leb-true}
use Rattle.std.proofs.lemmas.Int.{to_z-of_z}
use Rattle.pb_rows.specs.Terms.{Written}
use Rattle.row_text.specs.Numbers.{is_small}
use Rattle.row_text.specs.Rows.{is_small_row, is_small_term}

small-fits : (z : ℤ) → is_small z ≡ true → SFits w128 z
small-fits (pos n) h = record { sfits = omega (arith, leb-true n (2 ^ 120) h) }
small-fits (negsuc n) h = record { sfits = omega (arith, leb-true (suc n) (2 ^ 120) h) }

pub small-passed : (z : ℤ) → is_small z ≡ true → to_z w128 (of_z w128 z) ≡ z
small-passed z h = to_z-of_z w128 z (small-fits z h)

-- the right side of a small row
pub right-passed : (w : Written) → is_small_row w ≡ true → to_z w128 (of_z w128 w.at_least) ≡ w.at_least
right-passed w h = small-passed w.at_least (and_parts (list_all is_small_term w.terms) (is_small w.at_least) h).1
