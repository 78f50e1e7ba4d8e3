-- The lines of an instance's text: the header, declarations with their names, capacities and items, and the end.
use Rattle.std.specs.Prelude.{ℕ, Bool, true, false, ◌&&◌, nat_le, if◌then◌else◌, List, [], ◌∷◌, ◌++◌, length, filter_map, Option, Some, None, option_map, bytes_eq, codes}
use Rattle.std.specs.Str.{all_ascii_digits}
use Rattle.std.specs.Str.Parse.{digits_value}
use Rattle.rank_tables.specs.WellFormed.{most_capacity}
use Rattle.hrt_text.specs.Text.{Token, colon, opening, closing, word, Row}

-- capacities

-- one to five digits, of a value of at most the most posts
abbrev pub is_capacity : List ℕ → Bool
is_capacity w = nat_le 1 (length w) && nat_le (length w) 5 && all_ascii_digits w && nat_le (digits_value 10 w) most_capacity

-- items

-- the bytes of a token that is a word
abbrev pub word_of : Token → Option (List ℕ)
word_of (word w) = Some w
word_of colon = None
word_of opening = None
word_of closing = None

-- the words of items
abbrev pub words : List Token → List (List ℕ)
words items = filter_map word_of items

-- the names of a group
abbrev pub Group : Type 0
Group = List (List ℕ)

-- The groups of items, or None where the items have a `:` or parentheses that are nested, unpaired or empty.
-- The first argument has the names of the group whose parenthesis is open.
abbrev pub groups_from : Option Group → List Token → Option (List Group)
groups_from None [] = Some []
groups_from (Some group) [] = None
groups_from state (colon ∷ items) = None
groups_from None (opening ∷ items) = groups_from (Some []) items
groups_from (Some group) (opening ∷ items) = None
groups_from None (closing ∷ items) = None
groups_from (Some []) (closing ∷ items) = None
groups_from (Some (name ∷ group)) (closing ∷ items) = option_map (λ groups. (name ∷ group) ∷ groups) (groups_from None items)
groups_from None (word w ∷ items) = option_map (λ groups. (w ∷ []) ∷ groups) (groups_from None items)
groups_from (Some group) (word w ∷ items) = groups_from (Some (group ++ w ∷ [])) items

-- the groups of the items of a declaration, if they are groups
abbrev pub groups_of : List Token → Option (List Group)
groups_of items = groups_from None items

-- lines

-- a declaration with its parts, the end, or neither
pub data Form : Type 0 where
  resident : List ℕ → List Token → Form
  hospital : List ℕ → List ℕ → List Token → Form
  finish : Form
  other : Form

-- the form of a line that begins with `resident`, by what follows
abbrev pub resident_form : List Token → Form
resident_form (word name ∷ colon ∷ items) = resident name items
resident_form _ = other

-- the form of a line that begins with `hospital`, by what follows
abbrev pub hospital_form : List Token → Form
hospital_form (word name ∷ word capacity ∷ colon ∷ items) = hospital name capacity items
hospital_form _ = other

-- the form of a line that begins with `end`, by what follows
abbrev pub finish_form : List Token → Form
finish_form [] = finish
finish_form _ = other

-- the form of a line by its first word and what follows
abbrev pub form_by : List ℕ → List Token → Form
form_by first tokens =
    if bytes_eq first (codes "resident") then resident_form tokens
    else if bytes_eq first (codes "hospital") then hospital_form tokens
    else if bytes_eq first (codes "end") then finish_form tokens
    else other

-- the form of a line that isn't blank and isn't the header
abbrev pub form_of : Row → Form
form_of (word first ∷ tokens) = form_by first tokens
form_of _ = other

-- a line without tokens
abbrev pub is_blank : Row → Bool
is_blank [] = true
is_blank (t ∷ row) = false

-- `hrt 1`
abbrev pub is_header : Row → Bool
is_header (word first ∷ word second ∷ []) = bytes_eq first (codes "hrt") && bytes_eq second (codes "1")
is_header _ = false
