-- The canonical spelling of lists.
use Rattle.std.specs.Prelude.{ℕ, List, [], ◌∷◌, ◌++◌, map, flat_map, decimal, codes, unwrap_or, slice_get}
use Rattle.std.specs.List.{join_with_byte}
use Rattle.rank_tables.specs.Instance.{Lists}
use Rattle.rank_tables.specs.declared.draft.DraftResident.{DraftResident}
use Rattle.rank_tables.specs.declared.draft.DraftHospital.{DraftHospital}
use Rattle.rank_tables.specs.WellFormed.{names_of_residents, names_of_hospitals}

-- the name of a number
abbrev pub name_at : List (List ℕ) → ℕ → List ℕ
name_at names x = unwrap_or (slice_get names x) []

-- a group with several names has parentheses
abbrev pub group_text : List (List ℕ) → List ℕ → List ℕ
group_text names [] = []
group_text names (x ∷ []) = 32 ∷ name_at names x
group_text names (x ∷ y ∷ group) = 32 ∷ 40 ∷ (join_with_byte 32 (map (name_at names) (x ∷ y ∷ group)) ++ 41 ∷ [])

-- the groups of a list
abbrev pub items_text : List (List ℕ) → List (List ℕ) → List ℕ
items_text names groups = flat_map (group_text names) groups

-- the line of a resident, without its line feed
abbrev pub resident_text : List (List ℕ) → DraftResident → List ℕ
resident_text hospitals r = codes "resident" ++ 32 ∷ (r.name ++ 58 ∷ items_text hospitals r.groups)

-- the line of a hospital, without its line feed
abbrev pub hospital_text : List (List ℕ) → DraftHospital → List ℕ
hospital_text residents h = codes "hospital" ++ 32 ∷ (h.name ++ 32 ∷ (decimal h.capacity ++ 58 ∷ items_text residents h.groups))

-- the lines, without their line feeds
abbrev pub spelled_lines : Lists → List (List ℕ)
spelled_lines lists = codes "hrt 1" ∷ (map (resident_text (names_of_hospitals lists)) lists.residents
    ++ (map (hospital_text (names_of_residents lists)) lists.hospitals ++ codes "end" ∷ []))

-- `hrt 1`, the residents, the hospitals, `end`, each line ended by a line feed
abbrev pub spelling : Lists → List ℕ
spelling lists = flat_map (λ line. line ++ 10 ∷ []) (spelled_lines lists)
