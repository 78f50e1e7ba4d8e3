-- What is learned of the last clause.
use Rattle.std.specs.Prelude.{◌≡◌, ◌<◌}
use Rattle.pb_rows.specs.Terms.{coef_sum}
use Rattle.pb_propagate.specs.Engines.{EngineState}
use Rattle.conflict_cuts.specs.declared.making.Made.{Made}
use Rattle.conflict_cuts.specs.declared.learning.Learned.{Learned}
use Rattle.conflict_cuts.specs.declared.learning.Learned.TheVariants.{Clause, Root}
use Rattle.conflict_cuts.specs.Learned.{Asserts}

-- it asserts the literal at the level, or it holds nowhere
abbrev pub EndsIn : EngineState → Made → Learned → Type 0
EndsIn e last (Clause id row level asserts) = (id ≡ last.id) × (row ≡ last.row) × Asserts e last.row level asserts
EndsIn e last (Root id) = (id ≡ last.id) × (coef_sum last.row.terms < last.row.degree)
