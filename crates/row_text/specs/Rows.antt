-- Rows and terms as they are written.
use Rattle.std.specs.Prelude.{ℕ, Bool, ◌&&◌, if◌then◌else◌, List, [], ◌∷◌, ◌++◌, flat_map, codes, bytes_eq, decimal, ℤ, pos, negsuc, Option, None, option_map}
use Rattle.std.specs.Fmt.{signed_decimal}
use Rattle.std.specs.List.{list_all}
use Rattle.hrt_base.specs.declared.literal.Lit.{Lit}
use Rattle.hrt_base.specs.declared.literal.Term.{Term}
use Rattle.pb_rows.specs.Terms.{Written}
use Rattle.row_text.specs.Numbers.{both, is_small, read_literal, read_number}

-- ---- read: terms, `>=`, a number, `;`

-- a coefficient and a literal
abbrev pub read_term : List ℕ → List ℕ → Option Term
read_term number literal = both (λ c l. record { coef = c; lit = l }) (read_number number) (read_literal literal)

-- the number behind `>=`, and `;` as the last token
abbrev pub read_right : List ℕ → List (List ℕ) → Option ℤ
read_right number [] = None
read_right number (t ∷ []) = if bytes_eq t (codes ";") then read_number number else None
read_right number (t ∷ u ∷ ts) = None

-- the end of a row behind `>=`, as a row without terms
abbrev pub row_end : List ℕ → List (List ℕ) → Option Written
row_end number ts = option_map (λ n. record { terms = []; at_least = n }) (read_right number ts)

-- the row with one more term before its others
abbrev pub with_term : Term → Written → Written
with_term t row = record { terms = t ∷ row.terms; at_least = row.at_least }

-- terms, each of two tokens, then `>=`, a number and `;`
abbrev pub read_row : List (List ℕ) → Option Written
read_row [] = None
read_row (t ∷ []) = None
read_row (t ∷ u ∷ ts) = if bytes_eq t (codes ">=") then row_end u ts else both with_term (read_term t u) (read_row ts)

-- the coefficient is within 2^120
abbrev pub is_small_term : Term → Bool
is_small_term t = is_small t.coef

-- every number in the row is within 2^120
abbrev pub is_small_row : Written → Bool
is_small_row row = list_all is_small_term row.terms && is_small row.at_least

-- ---- written: every coefficient with its sign, the right side with one only where it is negative

-- the sign that decimal digits lack: `+` where the number isn't negative
abbrev pub sign_of : ℤ → List ℕ
sign_of (pos n) = codes "+"
sign_of (negsuc n) = []

-- a number in decimal digits, always with its sign
abbrev pub signed_text : ℤ → List ℕ
signed_text z = sign_of z ++ signed_decimal z

-- `x` and the number of the variable, behind `~` where the literal is its opposite
abbrev pub literal_text : Lit → List ℕ
literal_text l = (if l.neg then codes "~" else []) ++ codes "x" ++ decimal l.var

-- a term, with a space behind it
abbrev pub term_text : Term → List ℕ
term_text t = signed_text t.coef ++ 32 ∷ (literal_text t.lit ++ 32 ∷ [])

-- a row as it is written, without a line feed
abbrev pub row_text : Written → List ℕ
row_text row = flat_map term_text row.terms ++ codes ">= " ++ signed_decimal row.at_least ++ codes " ;"

-- ---- the words of what is written

-- the words of a term: its coefficient with the sign, and its literal
abbrev pub term_words : Term → List (List ℕ)
term_words t = signed_text t.coef ∷ literal_text t.lit ∷ []

-- the words of a row: those of its terms, `>=`, the right side and `;`
abbrev pub row_words : Written → List (List ℕ)
row_words row = flat_map term_words row.terms ++ codes ">=" ∷ signed_decimal row.at_least ∷ codes ";" ∷ []
