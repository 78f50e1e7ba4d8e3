-- What came of reading a text.
use Rattle.std.specs.Prelude.{◌≡◌, ℕ, Bool, false, true, if◌then◌else◌, List, ◌++◌, Option, Some, None}
use Rattle.row_text.specs.declared.readings.Reading.{Reading}
use Rattle.row_text.specs.declared.readings.Reading.TheVariants.{Unspelled, TooBig, Value}

-- what is read is kept where its numbers are small
abbrev pub reading : {A : Type 0} → (A → Bool) → Option A → Reading A
reading small None = Unspelled
reading small (Some x) = if small x then Value x else TooBig

-- the text has a spelling, though its numbers may be too big
abbrev pub is_spelled : {A : Type 0} → Reading A → Bool
is_spelled Unspelled = false
is_spelled TooBig = true
is_spelled (Value x) = true

-- ---- what stands after want of memory

-- the bytes of before still stand in front
pub record StaysInFront (old new : List ℕ) : Type 0 where
  pub added : List ℕ
  pub whole : new ≡ old ++ added
