use Rattle.std.proofs.Common.{◌≡◌, ◌≤◌, ℕ}
use Rattle.hrt_base.specs.declared.literal.Value.TheVariants.{Free}
use Rattle.pb_propagate.specs.Entries.{value_in}
use Rattle.pb_search.proofs.quiet.pick.Given as goal

abbrev pub invariant-loop-k : goal.invariant-loop-k
invariant-loop-k l = (v : ℕ) → 1 ≤ v → v ≤ l.k → value_in l.engine.trail v ≡ Free → ⊥
