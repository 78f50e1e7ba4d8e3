-- How literals stand on a trail.
use Rattle.std.specs.Prelude.{◌≡◌, ℕ, ◌&&◌, not, List}
use Rattle.hrt_base.specs.declared.literal.Lit.{Lit}
use Rattle.pb_rows.specs.Terms.{opposite_lit}
use Rattle.level_sweep.specs.declared.sweeping.Stand.{Stand}
use Rattle.level_sweep.specs.Levels.{is_false_at, is_free_at}
use Rattle.pb_propagate.specs.Entries.{Entry, set_of, up_to}

-- it is told at which levels the literal is free, and at which it is false
pub record StandsAs (entries : List Entry) (l : Lit) (stand : Stand) : Type 0 where
  pub free : (k : ℕ) → (not (set_of (up_to k entries) l) && not (set_of (up_to k entries) (opposite_lit l))) ≡ is_free_at k stand
  pub false_from : (k : ℕ) → set_of (up_to k entries) (opposite_lit l) ≡ is_false_at k stand
