-- How rows are kept: the place of a row is where it stands in the list.
use Rattle.std.specs.Prelude.{ℕ, ◌+◌, List, [], ◌∷◌}
use Rattle.pb_rows.specs.Terms.{PlainRow}
use Rattle.row_arena.specs.declared.arena.Stored.{Stored}
use Rattle.row_arena.specs.Held.{Held}

-- the row that is kept
abbrev pub kept_row : Stored → PlainRow
kept_row s = record { terms = s.terms.items; degree = s.degree }

-- the rows with the places from n on
abbrev pub placed_from : ℕ → List Stored → List Held
placed_from n [] = []
placed_from n (s ∷ rows) = record { place = n; row = kept_row s; tag = s.tag.0 } ∷ placed_from (n + 1) rows
