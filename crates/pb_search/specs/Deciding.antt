-- The variable that is decided next.
use Rattle.std.specs.Prelude.{◌≡◌, ◌<◌, ◌≤◌, ℕ, false}
use Rattle.hrt_base.specs.declared.literal.Lit.{Lit}
use Rattle.hrt_base.specs.declared.literal.Value.TheVariants.{Free}
use Rattle.pb_rows.specs.Points.{IsCovered}
use Rattle.pb_propagate.specs.Entries.{value_in}
use Rattle.pb_propagate.specs.Engines.{EngineState}

-- the literal makes the least free variable true
pub record IsLeastFree (e : EngineState) (l : Lit) : Type 0 where
  pub positive : l.neg ≡ false
  pub covered : IsCovered e.vars l.var
  pub free : value_in e.trail l.var ≡ Free
  pub least : (v : ℕ) → 1 ≤ v → v < l.var → value_in e.trail v ≡ Free → ⊥
