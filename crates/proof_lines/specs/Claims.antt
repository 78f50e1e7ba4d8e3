-- Bounds that are read, together.
use Rattle.std.specs.Prelude.{ℤ, Option}
use Rattle.row_text.specs.declared.readings.Reading.{Reading}
use Rattle.row_text.specs.declared.readings.Reading.TheVariants.{Unspelled, TooBig, Value}
use Rattle.proof_lines.specs.declared.line.Claim.{Claim}
use Rattle.proof_lines.specs.declared.line.Claim.TheVariants.{Bounds}

-- the claim of a lower and an upper bound; it is unspelled where either is, and else too big where either is
abbrev pub joined : Reading (Option ℤ) → Reading (Option ℤ) → Reading Claim
joined Unspelled upper = Unspelled
joined TooBig Unspelled = Unspelled
joined TooBig upper = TooBig
joined (Value l) Unspelled = Unspelled
joined (Value l) TooBig = TooBig
joined (Value l) (Value u) = Value (Bounds l u)
