-- The canonical spelling in the pieces that are written.
use Rattle.std.specs.Prelude.{ℕ, Bool, nat_lt, List, [], ◌∷◌, ◌++◌, length, decimal, codes}
use Rattle.rank_tables.specs.Instance.{Lists, groups_of_resident, groups_of_hospital, capacity_of}
use Rattle.rank_tables.specs.WellFormed.{names_of_residents, names_of_hospitals}
use Rattle.hrt_reader.specs.Spelling.{name_at, items_text}
use Rattle.hrt_reader.specs.declared.pieces.Side.{Side}
use Rattle.hrt_reader.specs.declared.pieces.Side.TheVariants.{Residents, Hospitals}

-- the names of a side
abbrev pub names_of : Side → Lists → List (List ℕ)
names_of Residents lists = names_of_residents lists
names_of Hospitals lists = names_of_hospitals lists

-- whether this is the number of a name
abbrev pub is_number : List (List ℕ) → ℕ → Bool
is_number names x = nat_lt x (length names)

-- a name after a space
abbrev pub spaced : List (List ℕ) → ℕ → List ℕ
spaced names x = 32 ∷ name_at names x

-- the line of resident r
abbrev pub line_of_resident : Lists → ℕ → List ℕ
line_of_resident lists r =
    codes "resident " ++ (name_at (names_of_residents lists) r ++ 58 ∷ (items_text (names_of_hospitals lists) (groups_of_resident lists r) ++ 10 ∷ []))

-- the line of hospital h
abbrev pub line_of_hospital : Lists → ℕ → List ℕ
line_of_hospital lists h =
    codes "hospital " ++ (name_at (names_of_hospitals lists) h ++ 32 ∷ (decimal (capacity_of lists h) ++ 58 ∷ (items_text (names_of_residents lists) (groups_of_hospital lists h) ++ 10 ∷ [])))
