-- Formulas, and rows that go by numbers.
use Rattle.std.specs.Prelude.{ℕ, ◌+◌, Bool, not, ◌==◌, if◌then◌else◌, List, [], ◌∷◌, map, filter, Option, Some, None}
use Rattle.std.specs.List.{list_any}
use Rattle.hrt_base.specs.declared.literal.Term.{Term}
use Rattle.pb_rows.specs.Terms.{PlainRow}

-- The variables are 1 to vars. The rows are to hold, and the objective is to be as small as it can be.
pub record Formula : Type 0 where
  pub vars : ℕ
  pub objective : List Term
  pub rows : List PlainRow

-- ---- numbered rows

-- a row and the number that it goes by
pub record NumberedRow : Type 0 where
  pub number : ℕ
  pub row : PlainRow

-- the rows alone
abbrev pub rows_of : List NumberedRow → List PlainRow
rows_of entries = map (λ entry. entry.row) entries

-- the row of a number, the first where several have it
abbrev pub row_of : ℕ → List NumberedRow → Option PlainRow
row_of n [] = None
row_of n (entry ∷ entries) = if entry.number == n then Some entry.row else row_of n entries

-- whether a row has the number
abbrev pub is_numbered : ℕ → List NumberedRow → Bool
is_numbered n entries = list_any (λ entry. entry.number == n) entries

-- the rows but those of a number
abbrev pub without : ℕ → List NumberedRow → List NumberedRow
without n entries = filter (λ entry. not (entry.number == n)) entries

-- the rows with the numbers from n on
abbrev pub numbered_from : ℕ → List PlainRow → List NumberedRow
numbered_from n [] = []
numbered_from n (row ∷ rows) = record { number = n; row = row } ∷ numbered_from (n + 1) rows
