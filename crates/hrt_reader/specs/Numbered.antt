-- Groups of numbers, made token by token.
use Rattle.std.specs.Prelude.{ℕ, Bool, true, List, [], ◌∷◌, ◌++◌}
use Rattle.rank_tables.specs.Groups.{tied_on}
use Rattle.hrt_text.specs.Text.{Token, colon, opening, closing, word}
use Rattle.rank_tables.specs.Names.{is_among}
use Rattle.hrt_reader.specs.Accepted.{number_in}
use Rattle.hrt_text.specs.declared.items.Place.{Place}
use Rattle.hrt_text.specs.declared.items.Place.TheVariants.{Outside, Opened, Inside}

-- where groups stand after a word
abbrev pub place_after_word : Place → Place
place_after_word Outside = Outside
place_after_word Opened = Inside
place_after_word Inside = Inside

-- where groups stand after a token
abbrev pub next_place : Place → Token → Place
next_place place colon = place
next_place place opening = Opened
next_place place closing = Outside
next_place place (word w) = place_after_word place

-- the groups with one more number, where it belongs by its place
abbrev pub with_number : List (List ℕ) → Place → ℕ → List (List ℕ)
with_number groups Outside number = groups ++ (number ∷ []) ∷ []
with_number groups Opened number = groups ++ (number ∷ []) ∷ []
with_number groups Inside number = tied_on groups number

-- the groups after a token, in items that are groups
abbrev pub after_token : List (List ℕ) → List (List ℕ) → Place → Token → List (List ℕ)
after_token names groups place (word w) = with_number groups place (number_in names w)
after_token names groups place colon = groups
after_token names groups place opening = groups
after_token names groups place closing = groups

-- whether a token that is a word is one of the names
abbrev pub is_known : List (List ℕ) → Token → Bool
is_known names (word w) = is_among w names
is_known names colon = true
is_known names opening = true
is_known names closing = true
