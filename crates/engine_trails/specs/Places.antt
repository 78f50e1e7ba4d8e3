-- What stands at a place of an engine's trail.
use Rattle.std.specs.Prelude.{◌≡◌, ◌<◌, ◌+◌, ℕ, List, ◌∷◌, ◌++◌, length, slice_index_or}
use Rattle.hrt_base.specs.declared.literal.Lit.{Lit}
use Rattle.conflict_rows.specs.Trail.{Placed}
use Rattle.conflict_rows.specs.Ends.{IsReasonOver}
use Rattle.pb_propagate.specs.Entries.{lits_of, reason_in}
use Rattle.pb_propagate.specs.Engines.{EngineState}
use Rattle.pb_propagate.specs.Moments.{IsInOrder}
use Rattle.engine_trails.specs.History.{history, history_to, reason_row}

-- the literal behind the oldest k entries, with the row that the engine names as its reason, if there is one
pub record StandsAt (e : EngineState) (k : ℕ) (l : Lit) : Type 0 where
  pub entry : Placed
  pub step : history_to (k + 1) e ≡ entry ∷ history_to k e
  pub lit : entry.lit ≡ l
  pub reason : entry.reason ≡ reason_row e.held (reason_in e.trail l.var)
  pub over : IsReasonOver e.vars entry.reason
  pub count : length (history_to k e) ≡ k
  pub newer : List Placed
  pub later : newer ++ history_to (k + 1) e ≡ history e

-- so it is at every moment and each place
abbrev pub LiteralsStand : Type 0
LiteralsStand = (e : EngineState) (k : ℕ) (d : Lit) → IsInOrder e → k < length e.trail → StandsAt e k (slice_index_or (lits_of e.trail) k d)
