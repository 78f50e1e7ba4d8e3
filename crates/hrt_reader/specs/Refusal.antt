-- Which kinds stand in which line of an instance's text, the refusal of a text, and the lists that a text spells.
-- The kinds by their numbers: 1 no header, 2 the line isn't of the form, 3 a word in a name's place is no name, 4 the capacity
-- is none, 5 an earlier line declares the name on the same side, 6 a list names what no line declares, 7 a list has one name
-- twice, 8 the items are no groups, 9 the text ends without `end`, 10 something stands after `end`, 11 and 12 one resident, or
-- one hospital, more than there may be.
use Rattle.std.specs.Prelude.{ℕ, zero, suc, ◌+◌, max, Bool, true, false, not, ◌&&◌, ◌==◌, if◌then◌else◌, List, [], ◌∷◌, ◌++◌, length, map, take, drop, filter_map, find, slice_get, Option, Some, None, is_none, unwrap_or, option_map, ◌≡◌}
use Rattle.std.specs.List.{list_any, list_all}
use Rattle.hrt_text.specs.Text.{Token, Row, rows}
use Rattle.rank_tables.specs.Instance.{Lists}
use Rattle.rank_tables.specs.declared.draft.DraftResident.{DraftResident}
use Rattle.rank_tables.specs.declared.draft.DraftHospital.{DraftHospital}
use Rattle.rank_tables.specs.Names.{is_name, is_among, are_apart}
use Rattle.rank_tables.specs.WellFormed.{most_residents, most_hospitals}
use Rattle.hrt_reader.specs.Accepted.{number_in}
use Rattle.std.specs.Str.Parse.{digits_value}
use Rattle.hrt_text.specs.Grammar.{is_capacity, words, groups_of, Form, resident, hospital, finish, other, form_of, is_blank, is_header}

-- what a list of lines declares

-- what a line says of a resident: its name, and the items of its list
pub record ResidentLine : Type 0 where
  pub name : List ℕ
  pub items : List Token

-- what a line says of a hospital: its name, its capacity, and the items of its list
pub record HospitalLine : Type 0 where
  pub name : List ℕ
  pub capacity : List ℕ
  pub items : List Token

-- the resident that a line of this form declares, if it does
abbrev pub resident_by : Form → Option ResidentLine
resident_by (resident name items) = Some (record { name = name; items = items })
resident_by (hospital name capacity items) = None
resident_by finish = None
resident_by other = None

-- the hospital that a line of this form declares, if it does
abbrev pub hospital_by : Form → Option HospitalLine
hospital_by (resident name items) = None
hospital_by (hospital name capacity items) = Some (record { name = name; capacity = capacity; items = items })
hospital_by finish = None
hospital_by other = None

-- the residents that lines declare, in their order
abbrev pub residents_of : List Row → List ResidentLine
residents_of rows = filter_map (λ row. resident_by (form_of row)) rows

-- the hospitals that lines declare, in their order
abbrev pub hospitals_of : List Row → List HospitalLine
hospitals_of rows = filter_map (λ row. hospital_by (form_of row)) rows

-- the names of the residents that lines declare, in their order
abbrev pub declared_residents : List Row → List (List ℕ)
declared_residents rows = map (λ line. line.name) (residents_of rows)

-- the names of the hospitals that lines declare, in their order
abbrev pub declared_hospitals : List Row → List (List ℕ)
declared_hospitals rows = map (λ line. line.name) (hospitals_of rows)

-- what stands before a line

-- none of the lines has a token
abbrev pub all_blank : List Row → Bool
all_blank rows = list_all is_blank rows

-- the first line that isn't blank is the header
abbrev pub is_headed : List Row → Bool
is_headed [] = false
is_headed (row ∷ rows) = if is_blank row then is_headed rows else is_header row

-- the form of `end`
abbrev pub is_finish : Form → Bool
is_finish finish = true
is_finish (resident name items) = false
is_finish (hospital name capacity items) = false
is_finish other = false

-- one of the lines is `end`
abbrev pub is_finished : List Row → Bool
is_finished rows = list_any (λ row. is_finish (form_of row)) rows

-- the header has stood, and `end` has not
abbrev pub is_open : List Row → Bool
is_open rows = is_headed rows && not (is_finished rows)

-- the kinds of a line between the header and `end`, by its form

-- 2: neither a declaration nor `end`
abbrev pub bad_line : Form → Bool
bad_line other = true
bad_line finish = false
bad_line (resident name items) = false
bad_line (hospital name capacity items) = false

-- 3: its name, or a word of its list, is no name
abbrev pub bad_name : Form → Bool
bad_name (resident name items) = not (is_name name && list_all is_name (words items))
bad_name (hospital name capacity items) = not (is_name name && list_all is_name (words items))
bad_name finish = false
bad_name other = false

-- 4: the word in the capacity's place is no capacity
abbrev pub bad_capacity : Form → Bool
bad_capacity (hospital name capacity items) = not (is_capacity capacity)
bad_capacity (resident name items) = false
bad_capacity finish = false
bad_capacity other = false

-- 5: an earlier line declares the name on the same side
abbrev pub declared_twice : List Row → Form → Bool
declared_twice before (resident name items) = is_among name (declared_residents before)
declared_twice before (hospital name capacity items) = is_among name (declared_hospitals before)
declared_twice before finish = false
declared_twice before other = false

-- 6: its list names what no line declares
abbrev pub unknown_name : List Row → Form → Bool
unknown_name all (resident name items) = not (list_all (λ w. is_among w (declared_hospitals all)) (words items))
unknown_name all (hospital name capacity items) = not (list_all (λ w. is_among w (declared_residents all)) (words items))
unknown_name all finish = false
unknown_name all other = false

-- 7: its list has one name twice
abbrev pub named_twice : Form → Bool
named_twice (resident name items) = not (are_apart (words items))
named_twice (hospital name capacity items) = not (are_apart (words items))
named_twice finish = false
named_twice other = false

-- 8: its items are no groups
abbrev pub bad_tie : Form → Bool
bad_tie (resident name items) = is_none (groups_of items)
bad_tie (hospital name capacity items) = is_none (groups_of items)
bad_tie finish = false
bad_tie other = false

-- 11: it declares a resident, and the lines before declare as many as there may be
abbrev pub too_many_residents : List Row → Form → Bool
too_many_residents before (resident name items) = length (residents_of before) == most_residents
too_many_residents before (hospital name capacity items) = false
too_many_residents before finish = false
too_many_residents before other = false

-- 12: it declares a hospital, and the lines before declare as many as there may be
abbrev pub too_many_hospitals : List Row → Form → Bool
too_many_hospitals before (hospital name capacity items) = length (hospitals_of before) == most_hospitals
too_many_hospitals before (resident name items) = false
too_many_hospitals before finish = false
too_many_hospitals before other = false

-- whether a kind from 2 on other than 9 and 10 stands in a line of this form, after these lines, in a text of all these
abbrev pub stands_by_form : ℕ → List Row → Form → List Row → Bool
stands_by_form n before form all =
    if n == 2 then bad_line form
    else if n == 3 then bad_name form
    else if n == 4 then bad_capacity form
    else if n == 5 then declared_twice before form
    else if n == 6 then unknown_name all form
    else if n == 7 then named_twice form
    else if n == 8 then bad_tie form
    else if n == 11 then too_many_residents before form
    else if n == 12 then too_many_hospitals before form
    else false

-- whether kind n stands in the line between these
abbrev pub stands : ℕ → List Row → Row → List Row → Bool
stands n before row after =
    if n == 1 then all_blank before && not (is_blank row) && not (is_header row)
    else if n == 9 then is_none (slice_get after 0) && is_open (before ++ row ∷ [])
    else if n == 10 then is_headed before && is_finished before && not (is_blank row)
    else is_open before && not (is_blank row) && stands_by_form n before (form_of row) (before ++ row ∷ after)

-- Whether kind n stands in line k, counted from 1. Where all lines are blank, or there is none, BadHeader stands in line 1 and that is all.
abbrev pub has_kind : List Row → ℕ → ℕ → Bool
has_kind rows zero n = false
has_kind rows (suc i) n =
    if all_blank rows then i == 0 && n == 1
    else unwrap_or (option_map (λ row. stands n (take i rows) row (drop (suc i) rows)) (slice_get rows i)) false

-- a line, counted from 1, and the number of the kind that stands in it
pub record Refusal : Type 0 where
  pub line : ℕ
  pub kind : ℕ

-- the least number other than 6 that stands in line k
abbrev pub kind_in : List Row → ℕ → Option ℕ
kind_in rows k = find (has_kind rows k) (1 ∷ 2 ∷ 3 ∷ 4 ∷ 5 ∷ 7 ∷ 8 ∷ 9 ∷ 10 ∷ 11 ∷ 12 ∷ [])

-- 6, if it stands in line k
abbrev pub unknown_in : List Row → ℕ → Option ℕ
unknown_in rows k = if has_kind rows k 6 then Some 6 else None

-- the refusal of line k, if it has a kind, or else the later one
abbrev pub line_or : ℕ → Option ℕ → Option Refusal → Option Refusal
line_or k (Some n) later = Some (record { line = k; kind = n })
line_or k None later = later

-- the least of this many lines from line k on in which a kind stands
abbrev pub first_line : (ℕ → Option ℕ) → ℕ → ℕ → Option Refusal
first_line kind k zero = None
first_line kind k (suc count) = line_or k (kind k) (first_line kind (k + 1) count)

-- the first refusal, or else the later one
abbrev pub or_else : Option Refusal → Option Refusal → Option Refusal
or_else (Some refusal) later = Some refusal
or_else None later = later

-- the least line that has a kind other than 6, and in that line the least number
abbrev pub refusal_but_6 : List Row → Option Refusal
refusal_but_6 rows = first_line (kind_in rows) 1 (max 1 (length rows))

-- kind 6 is looked for only where no other kind stands, and then the least line is named
abbrev pub refusal : List Row → Option Refusal
refusal rows = or_else (refusal_but_6 rows) (first_line (unknown_in rows) 1 (length rows))

-- the lists

-- the groups of items by the numbers of their names
abbrev pub groups_in : List (List ℕ) → List Token → List (List ℕ)
groups_in names items = map (map (number_in names)) (unwrap_or (groups_of items) [])

-- a resident as it is declared, with the numbers of the hospitals in its list
abbrev pub resident_in : List (List ℕ) → ResidentLine → DraftResident
resident_in hospitals line = record { name = line.name; groups = groups_in hospitals line.items }

-- a hospital as it is declared, with the numbers of the residents in its list
abbrev pub hospital_in : List (List ℕ) → HospitalLine → DraftHospital
hospital_in residents line = record { name = line.name; capacity = digits_value 10 line.capacity; groups = groups_in residents line.items }

-- names are numbered by the order of their declarations
abbrev pub lists_of_rows : List Row → Lists
lists_of_rows rows = record {
  residents = map (resident_in (declared_hospitals rows)) (residents_of rows);
  hospitals = map (hospital_in (declared_residents rows)) (hospitals_of rows);
}

-- no kind stands in the bytes, and these are the lists that their lines declare
pub record ReadsAs (bytes : List ℕ) (lists : Lists) : Type 0 where
  pub accepted : refusal (rows bytes) ≡ None
  pub says : lists_of_rows (rows bytes) ≡ lists
