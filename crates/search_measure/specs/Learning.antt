-- A row that is learned at a level below the engine's, over an engine that is exact there: it is fresh, and its sizes are the trail's lengths.
use Rattle.std.specs.Prelude.{ℕ, []}
use Rattle.hrt_base.specs.declared.literal.Lit.{Lit}
use Rattle.pb_rows.specs.Terms.{PlainRow}
use Rattle.proof_rules.specs.Notes.{Fresh, HaveSizes}
use Rattle.row_arena.specs.Held.{held_rows}
use Rattle.pb_propagate.specs.Engines.{EngineState, decisions_at}
use Rattle.pb_propagate.specs.Moments.{IsInOrder}
use Rattle.pb_propagate.specs.Tables.{starts_from}
use Rattle.conflict_cuts.specs.Learned.{Asserts}
use Rattle.search_measure.specs.Ahead.{sizes_at}
use Rattle.search_measure.specs.Trails.{IsExactBelow}

abbrev pub LearnedIsFresh : Type 0
LearnedIsFresh = (e : EngineState) (row : PlainRow) (level : ℕ) (l : Lit) → IsInOrder e → IsExactBelow e → Asserts e row level l → Fresh e.vars (held_rows e.held) row (decisions_at level e) l

abbrev pub LearnedHasSizes : Type 0
LearnedHasSizes = (e : EngineState) (row : PlainRow) (level : ℕ) (l : Lit) → IsInOrder e → IsExactBelow e → Asserts e row level l →
    HaveSizes e.vars (held_rows e.held) [] (decisions_at level e) l (sizes_at (starts_from 0 e.trail) level)
