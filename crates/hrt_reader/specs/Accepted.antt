-- Which texts are accepted, and the lists that they spell.
--
-- The lines of an accepted text that aren't blank are, in this order, its header, its declarations and its end:
--
--     hrt 1
--     resident NAME : ITEMS
--     hospital NAME POSTS : ITEMS
--     end
--
-- Residents and hospitals stand in any order. An item of a list is a name, or a tie: names in parentheses, one at least. What
-- lines and tokens are, and so blanks, comments and carriage returns, is said in hrt_text/specs/Text.
use Rattle.std.specs.Prelude.{◌≡◌, ◌≤◌, ℕ, Bool, not, ◌&&◌, List, [], ◌∷◌, ◌++◌, length, map, filter, filter_map, flat_map, codes, IsTrue, Option, Some, None, bytes_eq}
use Rattle.std.specs.List.{list_all, position_or_len}
use Rattle.hrt_text.specs.Text.{Token, colon, opening, closing, word, Row, rows}
use Rattle.std.specs.Str.Parse.{digits_value}
use Rattle.hrt_text.specs.Grammar.{is_blank, is_capacity}
use Rattle.rank_tables.specs.Instance.{Lists}
use Rattle.rank_tables.specs.declared.draft.DraftResident.{DraftResident}
use Rattle.rank_tables.specs.declared.draft.DraftHospital.{DraftHospital}
use Rattle.rank_tables.specs.Names.{is_name, is_among, are_apart}
use Rattle.rank_tables.specs.WellFormed.{most_residents, most_hospitals}

-- ---- what is declared

-- an item of a list: a name, or a tie of a first name and others
pub data Item : Type 0 where
  single : List ℕ → Item
  tie : List ℕ → List (List ℕ) → Item

-- a declaration: of a resident, by its name and its list, or of a hospital, by its name, its posts as they are written and its list
pub data Declaration : Type 0 where
  of_resident : List ℕ → List Item → Declaration
  of_hospital : List ℕ → List ℕ → List Item → Declaration

-- ---- how it is written

-- the tokens of an item
abbrev pub item_tokens : Item → List Token
item_tokens (single name) = word name ∷ []
item_tokens (tie first others) = opening ∷ word first ∷ (map word others ++ closing ∷ [])

-- `hrt 1`
abbrev pub header_line : Row
header_line = word (codes "hrt") ∷ word (codes "1") ∷ []

-- `resident NAME : ITEMS` or `hospital NAME POSTS : ITEMS`
abbrev pub line_of : Declaration → Row
line_of (of_resident name items) = word (codes "resident") ∷ word name ∷ colon ∷ flat_map item_tokens items
line_of (of_hospital name posts items) = word (codes "hospital") ∷ word name ∷ word posts ∷ colon ∷ flat_map item_tokens items

-- `end`
abbrev pub end_line : Row
end_line = word (codes "end") ∷ []

-- the header, the declarations, the end
abbrev pub lines_of : List Declaration → List Row
lines_of declarations = header_line ∷ (map line_of declarations ++ end_line ∷ [])

-- the lines that aren't blank
abbrev pub filled : List Row → List Row
filled lines = filter (λ line. not (is_blank line)) lines

-- ---- which declarations make an instance

-- the name, if a resident is declared
abbrev pub resident_name : Declaration → Option (List ℕ)
resident_name (of_resident name items) = Some name
resident_name (of_hospital name posts items) = None

-- the name, if a hospital is declared
abbrev pub hospital_name : Declaration → Option (List ℕ)
hospital_name (of_resident name items) = None
hospital_name (of_hospital name posts items) = Some name

-- the residents, in the order of declaration
abbrev pub residents_in : List Declaration → List (List ℕ)
residents_in declarations = filter_map resident_name declarations

-- the hospitals, in the order of declaration
abbrev pub hospitals_in : List Declaration → List (List ℕ)
hospitals_in declarations = filter_map hospital_name declarations

-- the names of an item
abbrev pub item_names : Item → List (List ℕ)
item_names (single name) = name ∷ []
item_names (tie first others) = first ∷ others

-- a list names declared names alone, and none twice
abbrev pub is_list_of : List (List ℕ) → List Item → Bool
is_list_of declared items = list_all (λ name. is_among name declared) (flat_map item_names items) && are_apart (flat_map item_names items)

-- a declaration beside these residents and hospitals: its name is a name, its posts are one to five digits of a value up to the
-- most posts, and it lists the other side
abbrev pub is_lawful : List (List ℕ) → List (List ℕ) → Declaration → Bool
is_lawful residents hospitals (of_resident name items) = is_name name && is_list_of hospitals items
is_lawful residents hospitals (of_hospital name posts items) = is_name name && is_capacity posts && is_list_of residents items

-- each is lawful beside the others, none is declared twice on its side, and there are no more than there may be
pub record MakeInstance (declarations : List Declaration) : Type 0 where
  pub lawful : IsTrue (list_all (is_lawful (residents_in declarations) (hospitals_in declarations)) declarations)
  pub residents_apart : IsTrue (are_apart (residents_in declarations))
  pub hospitals_apart : IsTrue (are_apart (hospitals_in declarations))
  pub few_residents : length (residents_in declarations) ≤ most_residents
  pub few_hospitals : length (hospitals_in declarations) ≤ most_hospitals

-- ---- which lists they are

-- the number of a name: its place among the declared ones
abbrev pub number_in : List (List ℕ) → List ℕ → ℕ
number_in names name = position_or_len (bytes_eq name) names

-- the groups of a list, an item each, by the numbers of their names
abbrev pub groups_by : List (List ℕ) → List Item → List (List ℕ)
groups_by names items = map (map (number_in names)) (map item_names items)

-- the resident, if one is declared, beside these hospitals
abbrev pub resident_beside : List (List ℕ) → Declaration → Option DraftResident
resident_beside hospitals (of_resident name items) = Some (record { name = name; groups = groups_by hospitals items })
resident_beside hospitals (of_hospital name posts items) = None

-- the hospital, if one is declared, beside these residents
abbrev pub hospital_beside : List (List ℕ) → Declaration → Option DraftHospital
hospital_beside residents (of_resident name items) = None
hospital_beside residents (of_hospital name posts items) = Some (record { name = name; capacity = digits_value 10 posts; groups = groups_by residents items })

-- the lists of declarations
abbrev pub lists_declared : List Declaration → Lists
lists_declared declarations = record {
  residents = filter_map (resident_beside (hospitals_in declarations)) declarations;
  hospitals = filter_map (hospital_beside (residents_in declarations)) declarations;
}

-- ---- texts

-- the bytes are a spelling of these lists
pub record Spells (bytes : List ℕ) (lists : Lists) : Type 0 where
  pub declarations : List Declaration
  pub spelled : filled (rows bytes) ≡ lines_of declarations
  pub make_instance : MakeInstance declarations
  pub lists_are : lists_declared declarations ≡ lists
