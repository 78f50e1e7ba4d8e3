-- How the literals of a row stand at each level, and at which levels the row is open.
use Rattle.std.specs.Prelude.{◌≤◌, ◌<◌, ◌+◌, ◌⊎◌, ℕ, Bool, true, false, if◌then◌else◌, IsTrue, List, Contains, Option, Some, None, nat_le, nat_lt}
use Rattle.std.specs.List.{sum_by}
use Rattle.level_sweep.specs.declared.sweeping.Stand.{Stand}
use Rattle.level_sweep.specs.declared.sweeping.Stand.TheVariants.{False, Free, True}
use Rattle.level_sweep.specs.declared.sweeping.Standing.{Standing}

-- the level from which on the literal is true or false, if it is so at any
abbrev pub from_of : Stand → Option ℕ
from_of Free = None
from_of (True from) = Some from
from_of (False from) = Some from

-- what becomes true or false at a level is free below it
abbrev pub is_before : ℕ → Option ℕ → Bool
is_before k None = true
is_before k (Some from) = nat_lt k from

-- whether the literal is free at level k
abbrev pub is_free_at : ℕ → Stand → Bool
is_free_at k stand = is_before k (from_of stand)

-- whether the literal is false at level k
abbrev pub is_false_at : ℕ → Stand → Bool
is_false_at k Free = false
is_false_at k (True from) = false
is_false_at k (False from) = nat_le from k

-- the weight of the literal, or 0 where it is false at level k
abbrev pub share_at : ℕ → Standing → ℕ
share_at k s = if is_false_at k s.stand then 0 else s.weight

-- what the literals weigh that aren't false at level k
abbrev pub nonfalse_at : ℕ → List Standing → ℕ
nonfalse_at k xs = sum_by (share_at k) xs

-- what all literals weigh
abbrev pub weights : List Standing → ℕ
weights xs = sum_by (λ s. s.weight) xs

-- the row propagates a literal at level k: one that is free there, and weighs more than the others can spare
pub record PropagatesAt (degree : ℕ) (xs : List Standing) (k : ℕ) : Type 0 where
  pub literal : Standing
  pub stands : Contains xs literal
  pub free : IsTrue (is_free_at k literal.stand)
  pub exceeds : nonfalse_at k xs < degree + literal.weight

-- the row is open at level k: it is falsified there, or propagates a literal
abbrev pub IsOpenAt : ℕ → List Standing → ℕ → Type 0
IsOpenAt degree xs k = (nonfalse_at k xs < degree) ⊎ PropagatesAt degree xs k

-- it isn't open at level k
pub record IsKeptAt (degree : ℕ) (xs : List Standing) (k : ℕ) : Type 0 where
  pub unfalsified : degree ≤ nonfalse_at k xs
  pub spared : (s : Standing) → Contains xs s → IsTrue (is_free_at k s.stand) → degree + s.weight ≤ nonfalse_at k xs

-- the level is the least one at which the row is open, or it is open at none
abbrev pub IsLowestOpen : ℕ → List Standing → Option ℕ → Type 0
IsLowestOpen degree xs None = (k : ℕ) → IsKeptAt degree xs k
IsLowestOpen degree xs (Some level) = IsOpenAt degree xs level × ((k : ℕ) → k < level → IsKeptAt degree xs k)
