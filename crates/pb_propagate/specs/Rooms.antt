-- The tables of a trail with the room that was taken for them.
use Rattle.std.specs.Prelude.{◌≡◌, ◌≤◌, ◌<◌, ◌^◌, ℕ, List, length, vec_capacity}
use Rattle.std.specs.declared.vec.Vec.{Vec}
use Rattle.std.specs.List.{All}
use Rattle.hrt_base.specs.declared.literal.Lit.{Lit}
use Rattle.hrt_base.specs.declared.literal.Value.{Value}
use Rattle.propagation.specs.Tables.{IsTable}
use Rattle.pb_propagate.specs.declared.trail.Mark.{Mark}
use Rattle.pb_propagate.specs.Entries.{IsNewlyFalse}
use Rattle.pb_propagate.specs.Tables.{AreLevels, entries_of, starts_from}

-- what the tables of a trail keep. No list outgrows the number of variables, and each has room for so many.
pub record AreTables {A : Type 0} (values : List Value) (marks : List Mark) (literals : Vec Lit A) (starts : Vec ℕ A) (due : Vec Lit A) : Type 0 where
  pub table : IsTable values literals.items
  pub marked : length marks ≡ length values
  pub levels : AreLevels marks 0 (entries_of marks literals.items)
  pub begun : starts.items ≡ starts_from 0 (entries_of marks literals.items)
  pub new : All (IsNewlyFalse (entries_of marks literals.items)) due.items
  pub few : length due.items ≤ length literals.items
  pub few_vars : length values < 2 ^ 32
  pub room : length values ≤ vec_capacity literals
  pub room_for_starts : length values ≤ vec_capacity starts
  pub room_for_due : length values ≤ vec_capacity due
