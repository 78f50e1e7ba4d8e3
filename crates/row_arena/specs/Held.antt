-- Rows that are held, each at its place.
use Rattle.std.specs.Prelude.{◌==◌, ℕ, Bool, if◌then◌else◌, List, [], ◌∷◌, map}
use Rattle.std.specs.List.{All, IsDistinct, list_any}
use Rattle.pb_rows.specs.Terms.{PlainRow}
use Rattle.pb_rows.specs.Rows.{IsShort, IsWellFormedRow}
use Rattle.propagation.specs.Following.{IsOver}

-- a row, the place at which it stands, and the number that it goes by
pub record Held : Type 0 where
  pub place : ℕ
  pub row : PlainRow
  pub tag : ℕ

-- The number of variables, and the rows, oldest first.
pub record HeldRows : Type 0 where
  pub vars : ℕ
  pub held : List Held

-- the rows alone
abbrev pub held_rows : List Held → List PlainRow
held_rows held = map (λ h. h.row) held

-- whether a row stands at the place
abbrev pub is_held : ℕ → List Held → Bool
is_held p held = list_any (λ h. p == h.place) held

-- what no place holds: it says nothing
abbrev pub no_row : PlainRow
no_row = record { terms = []; degree = 0 }

-- the row at a place
abbrev pub row_at : ℕ → List Held → PlainRow
row_at p [] = no_row
row_at p (h ∷ held) = if p == h.place then h.row else row_at p held

-- the number of the row at a place
abbrev pub tag_at : ℕ → List Held → ℕ
tag_at p [] = 0
tag_at p (h ∷ held) = if p == h.place then h.tag else tag_at p held

-- what each held row keeps: it is in normal form, its variables are from 1 to vars, and its numbers are short
pub record IsKept (vars : ℕ) (r : PlainRow) : Type 0 where
  pub normal : IsWellFormedRow r
  pub over : IsOver vars r
  pub short : IsShort r

-- what held rows keep: no two stand at one place
pub record AreHeld (vars : ℕ) (held : List Held) : Type 0 where
  pub distinct : IsDistinct (λ a b. a.place == b.place) held
  pub kept : All (λ h. IsKept vars h.row) held
