-- The tokens of a line.
use Rattle.std.specs.Prelude.{ℕ, Bool, false, true, ◌==◌, ◌&&◌, ◌||◌, if◌then◌else◌, List, [], ◌∷◌, ◌++◌, bytes_eq}

-- What stands from a place in a line on: the bytes, if any, of the token that goes on there, and the tokens after it.
pub record Onward : Type 0 where
  pub run : List ℕ
  pub after : List (List ℕ)

-- the tokens, led by the bytes as one more token if there are any bytes
abbrev pub led_by : List ℕ → List (List ℕ) → List (List ℕ)
led_by [] after = after
led_by (b ∷ run) after = (b ∷ run) ∷ after

-- all tokens from the place on, with the one that goes on there
abbrev pub all_of : Onward → List (List ℕ)
all_of onward = led_by onward.run onward.after

-- the byte separates tokens: it is a space or a tab
abbrev pub is_blank : ℕ → Bool
is_blank b = b == 32 || b == 9

-- what stands from a byte on, given what stands behind it: a blank separates, and `;` is a token of its own
abbrev pub joined : ℕ → Onward → Onward
joined b onward =
    if is_blank b then record { run = []; after = all_of onward }
    else if b == 59 then record { run = []; after = (b ∷ []) ∷ all_of onward }
    else record { run = b ∷ onward.run; after = onward.after }

-- what stands from the first of the bytes on
abbrev pub onward_from : List ℕ → Onward
onward_from [] = record { run = []; after = [] }
onward_from (b ∷ bytes) = joined b (onward_from bytes)

-- the tokens of a line: spaces and tabs separate, and `;` is a token of its own
abbrev pub tokens : List ℕ → List (List ℕ)
tokens line = all_of (onward_from line)

-- ---- comments

-- there are bytes, and the first is this one
abbrev pub begins_with : ℕ → List ℕ → Bool
begins_with b [] = false
begins_with b (c ∷ bytes) = c == b

-- the first token begins with `*`
abbrev pub is_comment : List (List ℕ) → Bool
is_comment [] = false
is_comment (t ∷ ts) = begins_with 42 t

-- the tokens are these words
abbrev pub are : List (List ℕ) → List (List ℕ) → Bool
are [] [] = true
are [] (u ∷ us) = false
are (t ∷ ts) [] = false
are (t ∷ ts) (u ∷ us) = bytes_eq t u && are ts us

-- ---- words as a text

-- words with a space before each
abbrev pub spaced : List (List ℕ) → List ℕ
spaced [] = []
spaced (w ∷ ws) = 32 ∷ (w ++ spaced ws)

-- words with single spaces between them
abbrev pub words_text : List (List ℕ) → List ℕ
words_text [] = []
words_text (w ∷ ws) = w ++ spaced ws
