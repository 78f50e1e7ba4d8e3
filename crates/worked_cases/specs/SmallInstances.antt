-- Small instances. Names are one byte: a to c for residents, x to z for hospitals.
use Rattle.std.specs.Prelude.{◌≡◌, ℕ, List, [], ◌∷◌, pos}
use Rattle.rank_tables.specs.declared.draft.DraftResident.{DraftResident}
use Rattle.rank_tables.specs.declared.draft.DraftHospital.{DraftHospital}
use Rattle.rank_tables.specs.Instance.{Lists}
use Rattle.stability_model.specs.Model.{at_most, term, written_rows}

-- a resident of this name and list
abbrev pub resident : ℕ → List (List ℕ) → DraftResident
resident name groups = record { name = name ∷ []; groups = groups }

-- a hospital of this name, with so many posts and this list
abbrev pub hospital : ℕ → ℕ → List (List ℕ) → DraftHospital
hospital name capacity groups = record { name = name ∷ []; capacity = capacity; groups = groups }

-- a tie in a hospital's list
-- resident a: x y / resident b: x / hospital x 1: (a b) / hospital y 1: a
-- Pair 1 is a x, pair 2 is a y, pair 3 is b x.
abbrev pub tied : Lists
tied = record {
  residents = resident 97 ((0 ∷ []) ∷ (1 ∷ []) ∷ []) ∷ resident 98 ((0 ∷ []) ∷ []) ∷ [];
  hospitals = hospital 120 1 ((0 ∷ 1 ∷ []) ∷ []) ∷ hospital 121 1 ((0 ∷ []) ∷ []) ∷ [];
}

-- the same with a ranked above b at x: they block whatever keeps them apart
abbrev pub strict : Lists
strict = record {
  residents = tied.residents;
  hospitals = hospital 120 1 ((0 ∷ []) ∷ (1 ∷ []) ∷ []) ∷ hospital 121 1 ((0 ∷ []) ∷ []) ∷ [];
}

-- a hospital without posts
-- resident a: x / resident b: x / hospital x 0: a b
abbrev pub no_posts : Lists
no_posts = record {
  residents = resident 97 ((0 ∷ []) ∷ []) ∷ resident 98 ((0 ∷ []) ∷ []) ∷ [];
  hospitals = hospital 120 0 ((0 ∷ []) ∷ (1 ∷ []) ∷ []) ∷ [];
}

-- the rows of its model: the row of b x has the pair of a, which the hospital ranks higher
abbrev pub RowsWithoutPosts : Type 0
RowsWithoutPosts =
    written_rows no_posts
    ≡ at_most 1 (1 ∷ []) ∷ at_most 1 (2 ∷ []) ∷ at_most 0 (1 ∷ 2 ∷ [])
    ∷ record { terms = term (pos 1) 1 ∷ []; at_least = pos 0 }
    ∷ record { terms = term (pos 1) 1 ∷ term (pos 1) 2 ∷ []; at_least = pos 0 } ∷ []

-- ties on both sides, where a resident's rank counts groups: z has rank 2 for a, not 3
-- resident a: (x y) z / resident b: (x y) / resident c: x / hospital x 1: (a b) c / hospital y 1: (a b) / hospital z 1: a
-- Pairs are 1 a x, 2 a y, 3 a z, 4 b x, 5 b y, 6 c x.
abbrev pub three : Lists
three = record {
  residents = resident 97 ((0 ∷ 1 ∷ []) ∷ (2 ∷ []) ∷ []) ∷ resident 98 ((0 ∷ 1 ∷ []) ∷ []) ∷ resident 99 ((0 ∷ []) ∷ []) ∷ [];
  hospitals = hospital 120 1 ((0 ∷ 1 ∷ []) ∷ (2 ∷ []) ∷ []) ∷ hospital 121 1 ((0 ∷ 1 ∷ []) ∷ []) ∷ hospital 122 1 ((0 ∷ []) ∷ []) ∷ [];
}
