-- Which lists the sizes of a learned row's closures can be, and how many there are.
use Rattle.std.specs.Prelude.{ℕ, ◌+◌, ◌-◌, ◌^◌, ◌<◌, ◌≤◌, IsTrue, List, [], ◌∷◌}
use Rattle.pb_rows.specs.Terms.{PlainRow}
use Rattle.proof_rules.specs.Notes.{Fresh, HaveSizes, LearnedRow, is_greater}

-- Sizes that rise from low on and pass no n. The last one is above low; each before it sets low to one more than itself.
abbrev pub RiseFrom : ℕ → ℕ → List ℕ → Type 0
RiseFrom n low [] = ⊥
RiseFrom n low (s ∷ []) = (low < s) × (s ≤ n)
RiseFrom n low (s ∷ t ∷ more) = (low ≤ s) × RiseFrom n (s + 1) (t ∷ more)

-- how far such a list is from the last one in dictionary order: from 1 to 2 ^ n - 1, and it falls where lists rise
abbrev pub distance : ℕ → List ℕ → ℕ
distance n [] = 0
distance n (s ∷ []) = 2 ^ (n - s)
distance n (s ∷ t ∷ more) = 2 ^ (n - (s + 1)) + distance n (t ∷ more)

-- there is a row of which a note can say so: it is fresh
pub record IsLearned (vars : ℕ) (learned : LearnedRow) : Type 0 where
  pub row : PlainRow
  pub fresh : Fresh vars learned.held row learned.decisions learned.asserts

-- the sizes of its closures
abbrev pub AreSizes : ℕ → LearnedRow → List ℕ → Type 0
AreSizes vars learned sizes = HaveSizes vars learned.held [] learned.decisions learned.asserts sizes

-- the greater of two lists is nearer to the last one
abbrev pub DistancesFall : Type 0
DistancesFall = (n : ℕ) (before after : List ℕ) → RiseFrom n 0 before → RiseFrom n 0 after → IsTrue (is_greater after before) → distance n after < distance n before

-- distances are at least 1 and less than 2 ^ n
abbrev pub DistancesAreBounded : Type 0
DistancesAreBounded = (n : ℕ) (sizes : List ℕ) → RiseFrom n 0 sizes → (0 < distance n sizes) × (distance n sizes < 2 ^ n)

-- a fresh row has sizes
abbrev pub FreshRowsHaveSizes : Type 0
FreshRowsHaveSizes = (vars : ℕ) (learned : LearnedRow) → IsLearned vars learned → (sizes : List ℕ) × AreSizes vars learned sizes

-- and they rise
abbrev pub FreshSizesRise : Type 0
FreshSizesRise = (vars : ℕ) (learned : LearnedRow) (sizes : List ℕ) → IsLearned vars learned → AreSizes vars learned sizes → RiseFrom vars 0 sizes
