-- Bytes that stay in front of what is appended.
use Rattle.std.proofs.Common.{ℕ, List, ◌++◌, ◌∙◌, append_assoc}
use Rattle.std.specs.Prelude.{Result, Ok, Err, OnErr}
use Rattle.row_text.specs.Readings.{StaysInFront}

-- of a longer front the shorter one stays too
pub stays_longer : (old more new : List ℕ) → StaysInFront (old ++ more) new → StaysInFront old new
stays_longer old more new h = record { added = more ++ h.added; whole = h.whole ∙ append_assoc old more h.added }

pub OnErr-from : {A E : Type 0} (r : Result A E) (P : Type 0) → P → OnErr r P
OnErr-from (Ok x) P h = tt
OnErr-from (Err e) P h = h
