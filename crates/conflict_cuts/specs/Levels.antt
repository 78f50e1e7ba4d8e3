-- How a literal stands under sets, one for each level.
use Rattle.std.specs.Prelude.{◌≡◌, ◌&&◌, ℕ, not}
use Rattle.hrt_base.specs.declared.literal.Lit.{Lit}
use Rattle.pb_rows.specs.Terms.{opposite_lit}
use Rattle.pb_rows.specs.Closure.{Literals}
use Rattle.level_sweep.specs.declared.sweeping.Stand.{Stand}
use Rattle.level_sweep.specs.Levels.{is_false_at, is_free_at}

-- it is told at which levels the literal is free, and at which it is false
pub record StandsAs (at : ℕ → Literals) (l : Lit) (stand : Stand) : Type 0 where
  pub free : (k : ℕ) → (not (at k l) && not (at k (opposite_lit l))) ≡ is_free_at k stand
  pub false_from : (k : ℕ) → at k (opposite_lit l) ≡ is_false_at k stand
