-- The tables of a trail: by variable the level and the reason of its literal, and where each level begins.
use Rattle.std.specs.Prelude.{◌≡◌, ◌≤◌, ◌+◌, ◌-◌, ℕ, if◌then◌else◌, List, [], ◌∷◌, Option, Some, None, map, length, slice_index_or}
use Rattle.std.specs.List.{All}
use Rattle.hrt_base.specs.declared.literal.Lit.{Lit}
use Rattle.pb_rows.specs.Points.{IsCovered}
use Rattle.propagation.specs.Tables.{AreConsistent}
use Rattle.row_arena.specs.declared.arena.Place.{Place}
use Rattle.pb_propagate.specs.declared.trail.Mark.{Mark}
use Rattle.pb_propagate.specs.Entries.{Entry, IsNewlyFalse, is_decision, lits_of}

-- The variables are 1 to vars. The entries stand oldest first, and so do the literals that became false and are due.
pub record TrailState : Type 0 where
  pub vars : ℕ
  pub entries : List Entry
  pub due : List Lit

-- the facts of a trail: it is over the variables, has no variable twice, and the due literals became false at the last level
pub record IsTrail (t : TrailState) : Type 0 where
  pub few : length t.entries ≤ t.vars
  pub covered : All (λ l. IsCovered t.vars l.var) (lits_of t.entries)
  pub consistent : AreConsistent (lits_of t.entries)
  pub due_new : All (IsNewlyFalse t.entries) t.due

-- the number of a place
abbrev pub number_of : Option Place → Option ℕ
number_of None = None
number_of (Some place) = Some place.0

-- a variable that was never true or false
abbrev pub no_mark : Mark
no_mark = record { level = 0; reason = None }

-- what the table has for a literal's variable
abbrev pub mark_of : List Mark → Lit → Mark
mark_of marks l = slice_index_or marks (l.var - 1) no_mark

-- the entries of some literals
abbrev pub entries_of : List Mark → List Lit → List Entry
entries_of marks literals = map (λ (l : Lit). record { lit = l; reason = number_of (mark_of marks l).reason }) literals

-- the levels in the table are those of the entries, the first of which stands behind `below` decisions
abbrev pub AreLevels : List Mark → ℕ → List Entry → Type 0
AreLevels marks below [] = Unit {0}
AreLevels marks below (e ∷ entries) =
    let here = (if is_decision e then 1 else 0) + below in
    ((mark_of marks e.lit).level ≡ here) × AreLevels marks here entries

-- where the decisions stand, the first entry at place n
abbrev pub starts_from : ℕ → List Entry → List ℕ
starts_from n [] = []
starts_from n (e ∷ entries) = if is_decision e then n ∷ starts_from (n + 1) entries else starts_from (n + 1) entries
