-- The text of pairs of an instance: which kinds stand in which line, the refusal of a text, the pairs that a text spells, and
-- the canonical spelling. The kinds by their numbers: 1 the line isn't of the form, 2 a word is no declared name, 3 the two
-- names are no acceptable pair, 4 an earlier line has the pair.
use Rattle.std.specs.Prelude.{◌≡◌, ℕ, zero, suc, Bool, true, false, not, ◌&&◌, ◌==◌, if◌then◌else◌, List, [], ◌∷◌, ◌++◌, length, take, filter_map, flat_map, find, slice_get, Option, Some, None, is_none, unwrap_or, option_map, bytes_eq, codes}
use Rattle.hrt_text.specs.Text.{Token, word, Row, rows}
use Rattle.rank_tables.specs.Instance.{Lists, pair_at, pair_no}
use Rattle.rank_tables.specs.Names.{is_among}
use Rattle.rank_tables.specs.Numbers.{is_in}
use Rattle.rank_tables.specs.WellFormed.{names_of_residents, names_of_hospitals}
use Rattle.hrt_reader.specs.Accepted.{number_in}
use Rattle.hrt_reader.specs.Refusal.{Refusal, first_line}
use Rattle.hrt_reader.specs.Spelling.{name_at}

-- ---- lines

-- the form of a line: blank, a pair of two names, or neither
pub data PairForm : Type 0 where
  blank : PairForm
  pair : List ℕ → List ℕ → PairForm
  other : PairForm

-- what follows `pair`
abbrev pub names_form : List Token → PairForm
names_form (word resident ∷ word hospital ∷ []) = pair resident hospital
names_form _ = other

-- `pair RESIDENT HOSPITAL`, or nothing, or neither
abbrev pub pair_form : Row → PairForm
pair_form [] = blank
pair_form (word first ∷ tokens) = if bytes_eq first (codes "pair") then names_form tokens else other
pair_form _ = other

-- the number of the pair of two names, if it is acceptable
abbrev pub pair_named : Lists → List ℕ → List ℕ → Option ℕ
pair_named lists resident hospital = pair_no lists (number_in (names_of_residents lists) resident) (number_in (names_of_hospitals lists) hospital)

-- the number of the pair that a line of this form names, if it is acceptable
abbrev pub pair_by : Lists → PairForm → Option ℕ
pair_by lists (pair resident hospital) = pair_named lists resident hospital
pair_by lists blank = None
pair_by lists other = None

-- the pairs that lines name, in their order
abbrev pub pairs_of_rows : Lists → List Row → List ℕ
pairs_of_rows lists rows = filter_map (λ row. pair_by lists (pair_form row)) rows

-- ---- kinds

-- 1: the line is not of the form
abbrev pub no_pair_line : PairForm → Bool
no_pair_line other = true
no_pair_line blank = false
no_pair_line (pair resident hospital) = false

-- 2: a word is no declared name
abbrev pub unknown_in_pair : Lists → PairForm → Bool
unknown_in_pair lists (pair resident hospital) = not (is_among resident (names_of_residents lists) && is_among hospital (names_of_hospitals lists))
unknown_in_pair lists blank = false
unknown_in_pair lists other = false

-- 3: the two names are no acceptable pair
abbrev pub not_acceptable : Lists → PairForm → Bool
not_acceptable lists (pair resident hospital) = is_none (pair_named lists resident hospital)
not_acceptable lists blank = false
not_acceptable lists other = false

-- there is a number, and it is one of these
abbrev pub is_one_of : Option ℕ → List ℕ → Bool
is_one_of (Some p) ps = is_in p ps
is_one_of None ps = false

-- 4: an earlier line has the pair
abbrev pub repeated : Lists → List Row → PairForm → Bool
repeated lists before form = is_one_of (pair_by lists form) (pairs_of_rows lists before)

-- whether kind n stands in a line of this form, after these lines
abbrev pub stands_in_pair : Lists → ℕ → List Row → PairForm → Bool
stands_in_pair lists n before form =
    if n == 1 then no_pair_line form
    else if n == 2 then unknown_in_pair lists form
    else if n == 3 then not_acceptable lists form
    else if n == 4 then repeated lists before form
    else false

-- whether kind n stands in line k, counted from 1
abbrev pub has_pair_kind : Lists → List Row → ℕ → ℕ → Bool
has_pair_kind lists rows zero n = false
has_pair_kind lists rows (suc i) n = unwrap_or (option_map (λ row. stands_in_pair lists n (take i rows) (pair_form row)) (slice_get rows i)) false

-- the least number that stands in line k
abbrev pub pair_kind_in : Lists → List Row → ℕ → Option ℕ
pair_kind_in lists rows k = find (has_pair_kind lists rows k) (1 ∷ 2 ∷ 3 ∷ 4 ∷ [])

-- ---- texts

-- the least line in which a kind stands
abbrev pub pairs_refusal : Lists → List Row → Option Refusal
pairs_refusal lists rows = first_line (pair_kind_in lists rows) 1 (length rows)

-- the bytes are a spelling of these pairs
pub record SpellsPairs (lists : Lists) (bytes : List ℕ) (pairs : List ℕ) : Type 0 where
  pub accepted : pairs_refusal lists (rows bytes) ≡ None
  pub says : pairs_of_rows lists (rows bytes) ≡ pairs

-- ---- the canonical spelling

-- the line of a pair, without its line feed
abbrev pub pair_text : Lists → ℕ → List ℕ
pair_text lists p =
    codes "pair " ++ (name_at (names_of_residents lists) (pair_at lists p).resident ++ 32 ∷ name_at (names_of_hospitals lists) (pair_at lists p).hospital)

-- a line for each pair, ended by a line feed
abbrev pub pairs_spelling : Lists → List ℕ → List ℕ
pairs_spelling lists pairs = flat_map (λ p. pair_text lists p ++ 10 ∷ []) pairs
