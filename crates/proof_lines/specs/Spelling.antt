-- The spellings of a line of a proof.
use Rattle.std.specs.Prelude.{ℕ, ◌+◌, Bool, true, ◌&&◌, nat_le, if◌then◌else◌, List, [], ◌∷◌, length, ℤ, pos, negsuc, Option, Some, None, option_map, bytes_eq, codes}
use Rattle.std.specs.List.{list_all}
use Rattle.hrt_base.specs.declared.literal.Lit.{Lit}
use Rattle.hrt_base.specs.declared.numbered.RowNo.{RowNo}
use Rattle.hrt_text.specs.Text.{without_return}
use Rattle.row_text.specs.Tokens.{are, is_comment, tokens}
use Rattle.row_text.specs.Numbers.{both, is_small, read_each, read_id, read_literal, read_number, read_variable}
use Rattle.row_text.specs.Rows.{is_small_row, read_row}
use Rattle.proof_lines.specs.declared.line.PolStep.{PolStep}
use Rattle.proof_lines.specs.declared.line.PolStep.TheVariants.{Id, Axiom, Add, Times, Divide, Saturate, Weaken}
use Rattle.proof_lines.specs.declared.line.Claim.{Claim}
use Rattle.proof_lines.specs.declared.line.Claim.TheVariants.{Bounds, Unsat, Nothing}
use Rattle.proof_lines.specs.declared.line.Line.{Line}
use Rattle.proof_lines.specs.declared.line.Line.TheVariants.{Header, Count, Pol, Rup, Soli, Del, Output, Conclusion, End, Comment, Blank}

-- the longest line, with its line feed
abbrev pub most_bytes : ℕ
most_bytes = 16777216

-- the number of a row, from a plain number
abbrev pub row_no : ℕ → RowNo
row_no n = record { 0 = n }

-- a list that was read, where it isn't empty
abbrev pub one_or_more : {A : Type 0} → Option (List A) → Option (List A)
one_or_more None = None
one_or_more (Some []) = None
one_or_more (Some (x ∷ xs)) = Some (x ∷ xs)

-- ---- `pol`

-- what was read, where it is a factor: a number of at least 1
abbrev pub factor : Option ℤ → Option ℤ
factor None = None
factor (Some (pos n)) = if nat_le 1 n then Some (pos n) else None
factor (Some (negsuc n)) = None

-- the step of a row number, or else of a literal, where one of them is read
abbrev pub id_or_axiom : Option ℕ → Option Lit → Option PolStep
id_or_axiom (Some n) literal = Some (Id (row_no n))
id_or_axiom None (Some l) = Some (Axiom l)
id_or_axiom None None = None

-- a step of one token
abbrev pub read_step : List ℕ → Option PolStep
read_step t =
    if bytes_eq t (codes "+") then Some Add
    else if bytes_eq t (codes "s") then Some Saturate
    else id_or_axiom (read_id t) (read_literal t)

-- the steps that tokens spell, None where one isn't spelled; a token before `*` or `d` is a factor, one before `w` a variable
abbrev pub read_steps : List (List ℕ) → Option (List PolStep)
read_steps [] = Some []
read_steps (t ∷ []) = option_map (λ step. step ∷ []) (read_step t)
read_steps (t ∷ u ∷ ts) =
    if bytes_eq u (codes "*") then both (λ k steps. Times k ∷ steps) (factor (read_number t)) (read_steps ts)
    else if bytes_eq u (codes "d") then both (λ k steps. Divide k ∷ steps) (factor (read_number t)) (read_steps ts)
    else if bytes_eq u (codes "w") then both (λ v steps. Weaken v ∷ steps) (read_variable t) (read_steps ts)
    else both (λ step steps. step ∷ steps) (read_step t) (read_steps (u ∷ ts))

-- ---- claims

-- a bound, or the word that stands for none
abbrev pub read_bound : List ℕ → List ℕ → Option (Option ℤ)
read_bound word t = if bytes_eq t word then Some None else option_map Some (read_number t)

-- a lower and an upper bound, with `-INF` and `INF` for none
abbrev pub read_bounds : List (List ℕ) → Option Claim
read_bounds (l ∷ u ∷ []) = both Bounds (read_bound (codes "-INF") l) (read_bound (codes "INF") u)
read_bounds _ = None

-- what a conclusion claims: `BOUNDS` and two bounds, `UNSAT`, or `NONE`
abbrev pub read_claim : List (List ℕ) → Option Claim
read_claim [] = None
read_claim (t ∷ ts) =
    if bytes_eq t (codes "BOUNDS") then read_bounds ts
    else if are (t ∷ ts) (codes "UNSAT" ∷ []) then Some Unsat
    else if are (t ∷ ts) (codes "NONE" ∷ []) then Some Nothing
    else None

-- ---- lines

-- how many rows the formula has: `0`, or at most 18 digits without a leading zero
abbrev pub read_count : List (List ℕ) → Option ℕ
read_count (t ∷ []) = if bytes_eq t (codes "0") then Some 0 else read_id t
read_count _ = None

-- the number of a row, from one token
abbrev pub read_row_no : List ℕ → Option RowNo
read_row_no t = option_map row_no (read_id t)

-- the rows that are deleted: `id`, and one row number or more
abbrev pub read_del : List (List ℕ) → Option (List RowNo)
read_del [] = None
read_del (t ∷ ts) = if bytes_eq t (codes "id") then one_or_more (read_each read_row_no ts) else None

-- the words of the line that heads a proof, with the version of the format
abbrev pub header_words : List (List ℕ)
header_words = codes "pseudo-Boolean" ∷ codes "proof" ∷ codes "version" ∷ codes "2.0" ∷ []

-- the words of the line that says that there is no output
abbrev pub output_words : List (List ℕ)
output_words = codes "output" ∷ codes "NONE" ∷ []

-- the words of the line that ends a proof
abbrev pub end_words : List (List ℕ)
end_words = codes "end" ∷ codes "pseudo-Boolean" ∷ codes "proof" ∷ []

-- a line of fixed words
abbrev pub read_words : List (List ℕ) → Option Line
read_words ts =
    if are ts output_words then Some Output
    else if are ts header_words then Some Header
    else if are ts end_words then Some End
    else None

-- the line that the tokens spell, if any; without tokens it is blank
abbrev pub read_tokens : List (List ℕ) → Option Line
read_tokens [] = Some Blank
read_tokens (t ∷ ts) =
    if is_comment (t ∷ ts) then Some Comment
    else if bytes_eq t (codes "f") then option_map Count (read_count ts)
    else if bytes_eq t (codes "pol") then option_map Pol (one_or_more (read_steps ts))
    else if bytes_eq t (codes "rup") then option_map Rup (read_row ts)
    else if bytes_eq t (codes "soli") then option_map Soli (read_each read_literal ts)
    else if bytes_eq t (codes "del") then option_map Del (read_del ts)
    else if bytes_eq t (codes "conclusion") then option_map Conclusion (read_claim ts)
    else read_words (t ∷ ts)

-- What the bytes before a line feed spell, if anything; numbers may be of any size. With the line feed the line has at most
-- 16,777,216 bytes.
abbrev pub read_line : List ℕ → Option Line
read_line bytes = if nat_le (length bytes + 1) most_bytes then read_tokens (tokens (without_return bytes)) else None

-- ---- sizes

-- the step's factor, if it has one, is within 2^120
abbrev pub is_small_step : PolStep → Bool
is_small_step (Times k) = is_small k
is_small_step (Divide k) = is_small k
is_small_step step = true

-- the bound, if there is one, is within 2^120, on either side of 0
abbrev pub is_small_bound : Option ℤ → Bool
is_small_bound None = true
is_small_bound (Some z) = is_small z

-- the bounds that are claimed, if any, are within 2^120
abbrev pub is_small_claim : Claim → Bool
is_small_claim (Bounds lower upper) = is_small_bound lower && is_small_bound upper
is_small_claim claim = true

-- no number in the line passes 2^120
abbrev pub is_small_line : Line → Bool
is_small_line (Pol steps) = list_all is_small_step steps
is_small_line (Rup row) = is_small_row row
is_small_line (Conclusion claim) = is_small_claim claim
is_small_line line = true
