-- Rows that wait, each at its place.
use Rattle.std.specs.Prelude.{◌≡◌, ◌≤◌, ◌<◌, ℕ, IsTrue, IsFalse, nat_eq, List, [], ◌∷◌, Option, Some, None, length, slice_index_or}
use Rattle.std.specs.HashMap.{get}
use Rattle.pb_rows.specs.Terms.{PlainRow}
use Rattle.pb_rows.specs.Formula.{NumberedRow, is_numbered}
use Rattle.propagation.specs.Following.{IsOver}
use Rattle.rup_engine.specs.declared.queue.Entry.{Entry}
use Rattle.rup_engine.specs.declared.queue.Queue.{Queue}

-- each place holds a row that waits, or is empty
abbrev pub Places : Type 0
Places = List (Option Entry)

-- a row that waits, with its number
abbrev pub entry_of : Entry → NumberedRow
entry_of e = record { number = e.number.0; row = e.row }

-- the rows at the places that aren't empty, with their numbers
abbrev pub waiting_entries : Places → List NumberedRow
waiting_entries [] = []
waiting_entries (None ∷ places) = waiting_entries places
waiting_entries (Some e ∷ places) = entry_of e ∷ waiting_entries places

-- what is at a place, nothing past the end
abbrev pub place_at : Places → ℕ → Option Entry
place_at places k = slice_index_or places k None

-- a row is there, whose number is n
abbrev pub HasNumber : ℕ → Option Entry → Type 0
HasNumber n None = ⊥
HasNumber n (Some e) = e.number.0 ≡ n

-- if a row is there, its variables are from 1 to vars
abbrev pub IsOverPlace : ℕ → Option Entry → Type 0
IsOverPlace vars None = Unit {0}
IsOverPlace vars (Some e) = IsOver vars e.row

-- a row is there that has the terms of this one, and at least its degree
abbrev pub IsStrongPlace : PlainRow → Option Entry → Type 0
IsStrongPlace row None = ⊥
IsStrongPlace row (Some e) = (e.row.terms ≡ row.terms) × (row.degree ≤ e.row.degree)

-- the row at the place has the number, or no row has it
abbrev pub IsPlaceOf : Places → ℕ → Option ℕ → Type 0
IsPlaceOf places n None = (k : ℕ) → HasNumber n (place_at places k) → ⊥
IsPlaceOf places n (Some k) = HasNumber n (place_at places k)

-- each number is kept with the place of its row, no two rows have one number, and the places before the front are empty
pub record IsQueue (vars : ℕ) (queue : Queue) : Type 0 where
  pub named : (n : ℕ) → IsPlaceOf queue.places.items n (get nat_eq queue.numbers n)
  pub distinct : (j k n : ℕ) → HasNumber n (place_at queue.places.items j) → HasNumber n (place_at queue.places.items k) → j ≡ k
  pub over : (k : ℕ) → IsOverPlace vars (place_at queue.places.items k)
  pub empty : (k : ℕ) → k < queue.front → place_at queue.places.items k ≡ None
  pub within : queue.front ≤ length queue.places.items

-- no number of the one is a number of the other
pub record AreApart (listed waiting : List NumberedRow) : Type 0 where
  pub none : (n : ℕ) → IsTrue (is_numbered n listed) → IsFalse (is_numbered n waiting)

-- the live rows are those that are listed and those that wait
pub record IsSplit (vars : ℕ) (listed : List NumberedRow) (queue : Queue) : Type 0 where
  pub kept : IsQueue vars queue
  pub apart : AreApart listed (waiting_entries queue.places.items)
