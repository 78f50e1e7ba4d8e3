-- What the history of an engine is.
use Rattle.std.specs.Prelude.{◌≡◌, ℕ}
use Rattle.hrt_base.specs.declared.literal.Lit.{Lit}
use Rattle.conflict_rows.specs.Trail.{IsTrail, on, top_level, up_to}
use Rattle.conflict_rows.specs.Ends.{AreReasonsOver}
use Rattle.pb_propagate.specs.Entries.{level_of, set_of}
use Rattle.pb_propagate.specs.Engines.{EngineState, set_at}
use Rattle.pb_propagate.specs.Moments.{IsInOrder}
use Rattle.engine_trails.specs.History.{history}

-- it is a trail of the same literals and the same level, and of the same literals up to each level; its reasons are over the variables
pub record IsHistory (e : EngineState) : Type 0 where
  pub trail : IsTrail (history e)
  pub same : (l : Lit) → on (history e) l ≡ set_of e.trail l
  pub level : top_level (history e) ≡ level_of e.trail
  pub levels : (k : ℕ) (l : Lit) → on (up_to k (history e)) l ≡ set_at k e l
  pub over : AreReasonsOver e.vars (history e)

-- so it is at every moment
abbrev pub HistoriesAreTrails : Type 0
HistoriesAreTrails = (e : EngineState) → IsInOrder e → IsHistory e
