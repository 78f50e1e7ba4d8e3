-- The candidate of an engine, and the pairs that block it.
use Rattle.std.specs.Prelude.{◌≡◌, ◌≤◌, ℕ, true, false, not, IsTrue, List, filter}
use Rattle.std.specs.List.{All}
use Rattle.hrt_base.specs.declared.numbered.PairNo.{PairNo}
use Rattle.rank_tables.specs.Tables.{IsPairNo, numbers_of}
use Rattle.pb_rows.specs.Points.{Point}
use Rattle.rank_tables.specs.Numbers.{is_distinct, numbers_to}
use Rattle.rank_tables.specs.Instance.{Lists, pair_count}
use Rattle.rank_tables.specs.Stability.{blocks}
use Rattle.stability_model.specs.Model.{pairs_of_point}
use Rattle.pb_propagate.specs.Entries.{Entry, set_of}
use Rattle.pb_propagate.specs.Engines.{EngineState}

-- the point at which the variables that the trail makes true are 1, and the others 0
abbrev pub point_of_trail : List Entry → Point
point_of_trail entries = λ v. set_of entries (record { var = v; neg = false })

-- the pairs of the true variables, rising
abbrev pub candidate : Lists → EngineState → List ℕ
candidate lists e = pairs_of_point lists (point_of_trail e.trail)

-- each variable is either true or false
abbrev pub IsFull : EngineState → Type 0
IsFull e = (v : ℕ) → 1 ≤ v → v ≤ e.vars → set_of e.trail (record { var = v; neg = true }) ≡ not (set_of e.trail (record { var = v; neg = false }))

-- the pairs that block a matching, rising
abbrev pub blocking : Lists → List ℕ → List ℕ
blocking lists m = filter (blocks lists m) (numbers_to (pair_count lists))

-- pairs, none twice, each of which blocks the matching
pub record AreBlocking (lists : Lists) (m : List ℕ) (pairs : List PairNo) : Type 0 where
  pub distinct : IsTrue (is_distinct (numbers_of pairs))
  pub each : All (λ p. IsPairNo lists p.0 × IsTrue (blocks lists m p.0)) pairs
