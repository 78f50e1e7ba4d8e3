-- How often a proof learns a row: its learned rows fall into stretches, each row of a stretch later than the one before it.
use Rattle.std.specs.Prelude.{◌≡◌, ℕ, ◌*◌, ◌-◌, ◌^◌, ◌≤◌, List, [], ◌∷◌, ◌++◌, length, All}
use Rattle.proof_rules.specs.Notes.{Later, LearnedRow}
use Rattle.conflict_bound.specs.Sizes.{IsLearned}

-- each row is later than the one before it
abbrev pub AreLater : ℕ → List LearnedRow → Type 0
AreLater vars [] = Unit {0}
AreLater vars (a ∷ []) = Unit {0}
AreLater vars (a ∷ b ∷ more) = Later vars b a × AreLater vars (b ∷ more)

-- the rows of some stretches, one after another
abbrev pub all_of : List (List LearnedRow) → List LearnedRow
all_of [] = []
all_of (stretch ∷ more) = stretch ++ all_of more

-- a stretch that was ended: it has 100 rows or more
pub record IsEnded (vars : ℕ) (stretch : List LearnedRow) : Type 0 where
  pub long : 100 ≤ length stretch
  pub later : AreLater vars stretch

-- The rows are those of the ended stretches, at most 10,000, and then those of the current one. So at most 10,000 rows aren't later than
-- the one before them: the first such row has a number of at least 101, and the numbers of any two differ by at least 100.
pub record ConflictsBounded (vars : ℕ) (rows : List LearnedRow) : Type 0 where
  pub ended : List (List LearnedRow)
  pub current : List LearnedRow
  pub are : rows ≡ all_of ended ++ current
  pub few : length ended ≤ 10000
  pub stretches : All (IsEnded vars) ended
  pub later : AreLater vars current

-- a stretch of fresh rows has at most 2 ^ n - 1
abbrev pub StretchesAreShort : Type 0
StretchesAreShort = (vars : ℕ) (rows : List LearnedRow) → All (IsLearned vars) rows → AreLater vars rows → length rows ≤ 2 ^ vars - 1

-- so many fresh rows are learned at most
abbrev pub BoundedConflictsAreFew : Type 0
BoundedConflictsAreFew = (vars : ℕ) (rows : List LearnedRow) → All (IsLearned vars) rows → ConflictsBounded vars rows → length rows ≤ 10001 * (2 ^ vars - 1)

-- each ended stretch takes 100 rows or more
abbrev pub EndsAreApart : Type 0
EndsAreApart = (vars : ℕ) (rows : List LearnedRow) (bounded : ConflictsBounded vars rows) → 100 * length bounded.ended ≤ length rows
