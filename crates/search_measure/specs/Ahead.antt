-- Why each row that a search learns is later than the one before it: the trail's lengths are never behind that row's sizes.
-- A trail is seen as two things: its lengths up to the levels below the engine's, and its whole length.
use Rattle.std.specs.Prelude.{◌≡◌, ℕ, ◌+◌, ◌<◌, ◌⊎◌, IsTrue, List, [], ◌∷◌, ◌++◌, length, take, slice_index}
use Rattle.proof_rules.specs.Notes.{is_greater}

-- the sizes of a row that is learned at a level below the engine's: with its literal the closure there has one more
abbrev pub sizes_at : List ℕ → ℕ → List ℕ
sizes_at below level = take level below ++ (slice_index below level + 1) ∷ []

-- at least as great in dictionary order
abbrev pub IsAtLeast : List ℕ → List ℕ → Type 0
IsAtLeast xs ys = (xs ≡ ys) ⊎ IsTrue (is_greater xs ys)

-- a row that is learned at any level below the engine's is later than the last one
abbrev pub IsLaterBelow : List ℕ → List ℕ → Type 0
IsLaterBelow below last = (level : ℕ) → level < length below → IsTrue (is_greater (sizes_at below level) last)

-- The lengths have reached the sizes of the last row, or will do so once the row that is open propagates a literal. No sizes stand
-- for no row since the last restart.
pub record IsAhead (below : List ℕ) (whole : ℕ) (SomeOpen : Type 0) (last : List ℕ) : Type 0 where
  pub later_below : IsLaterBelow below last
  pub reached : IsAtLeast (below ++ whole ∷ []) last ⊎ (SomeOpen × IsAtLeast (below ++ (whole + 1) ∷ []) last)

-- the same where no row is open
pub record IsLevel (below : List ℕ) (whole : ℕ) (last : List ℕ) : Type 0 where
  pub later_below : IsLaterBelow below last
  pub reached : IsAtLeast (below ++ whole ∷ []) last
