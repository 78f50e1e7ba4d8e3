-- Texts of lines, the refusal at a line, and an instance with a tie.
use Rattle.std.specs.Prelude.{ℕ, List, [], ◌∷◌, ◌++◌, flat_map, Option, Some, codes}
use Rattle.rank_tables.specs.Instance.{Lists}
use Rattle.hrt_reader.specs.Refusal.{Refusal}

-- lines, each ended by a line feed
abbrev pub text : List (List ℕ) → List ℕ
text ls = flat_map (λ l. l ++ 10 ∷ []) ls

-- the refusal of line k for kind n
abbrev pub at : ℕ → ℕ → Option Refusal
at k n = Some (record { line = k; kind = n })

-- x is alike to a and b
abbrev pub tied : Lists
tied = record {
  residents = record { name = codes "a"; groups = (0 ∷ []) ∷ (1 ∷ []) ∷ [] } ∷ record { name = codes "b"; groups = (0 ∷ []) ∷ [] } ∷ [];
  hospitals = record { name = codes "x"; capacity = 1; groups = (0 ∷ 1 ∷ []) ∷ [] } ∷ record { name = codes "y"; capacity = 1; groups = (0 ∷ []) ∷ [] } ∷ [];
}
