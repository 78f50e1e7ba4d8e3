-- What trying the candidate of a full engine leads to, and what a search ends in.
use Rattle.std.specs.Prelude.{◌≡◌, ◌<◌, ◌≤◌, ℕ, IsTrue, is_some, List, ◌++◌, length, Some}
use Rattle.hrt_base.specs.declared.numbered.PairNo.{PairNo}
use Rattle.hrt_base.specs.declared.numbered.RowNo.{RowNo}
use Rattle.pb_rows.specs.Formula.{row_of}
use Rattle.rank_tables.specs.Instance.{pair_count}
use Rattle.proof_rules.specs.Told.{learned_rows, notes_of}
use Rattle.derivation.specs.Derived.{Derived, StandsFor}
use Rattle.derivation.specs.Pieces.{StandsTraced}
use Rattle.derivation.specs.Ready.{IsReady}
use Rattle.derivation.specs.Traces.{Trace}
use Rattle.conflict_bound.specs.Conflicts.{AreLater}
use Rattle.pb_propagate.specs.Engines.{EngineState}
use Rattle.search_measure.specs.Recorded.{GoesOn}
use Rattle.matching_log.specs.Logged.{ceiling_row}
use Rattle.pb_search.specs.declared.found.Found.{Found}
use Rattle.pb_search.specs.declared.found.Found.TheVariants as found
use Rattle.pb_search.specs.declared.moves.Move.{Move}
use Rattle.pb_search.specs.declared.moves.Move.TheVariants.{On, Best, Bounded}
use Rattle.pb_search.specs.Knowing.{HasContradiction, IsFound, Knows, work_left}
use Rattle.pb_search.specs.Moves.{AddsRows, IsSpent}
use Rattle.pb_search.specs.Searching.{AreJoined}

-- ---- the law of written lines

-- for whatever text it stood with the law of a written proof, where no row was made since the last mark, it stands so for that text after the
-- lines that were added
abbrev pub StaysMarked : Derived → Derived → Type 0
StaysMarked old new =
    (text : List ℕ) (t : Trace) → StandsTraced text old t → t.since ≡ Some old.state.next → (u : Trace) × StandsTraced text new u × (u.since ≡ Some new.state.next) × (u.units ≡ t.units)

-- the same, where rows were made since the last mark
abbrev pub StaysLawful : Derived → Derived → Type 0
StaysLawful old new = (text : List ℕ) (t : Trace) → StandsTraced text old t → t.since ≡ Some old.state.next → (u : Trace) × StandsTraced text new u × IsTrue (is_some u.since) × (u.units ≡ t.units)

-- ---- a candidate

-- Rows of pairs that block the candidate were loaded, or the candidate was logged as the largest matching so far and its row added. No row was
-- learned, engine and derivation are joined again, and there is less to do.
pub record GoesFurther (budget ceiling : ℕ) (bound : RowNo) (before after : List PairNo) (e new : EngineState) (d made : Derived) : Type 0 where
  pub level : ℕ
  pub adds : AddsRows level e new
  pub joined : AreJoined budget new made
  pub goes_on : GoesOn d made
  pub marked : StaysMarked d made
  pub unlearned : made.held.learn_notes ≡ d.held.learn_notes
  pub knows : Knows ceiling bound after made
  pub less : work_left ceiling after made < work_left ceiling before d

-- the candidate is as large as the ceiling: it was logged, and a row that holds nowhere was made
pub record ReachesCeiling (ceiling : ℕ) (bound : RowNo) (after : List PairNo) (d made : Derived) : Type 0 where
  pub goes_on : GoesOn d made
  pub lawful : StaysLawful d made
  pub unlearned : made.held.learn_notes ≡ d.held.learn_notes
  pub ready : IsReady made
  pub found : IsFound after made
  pub met : length after ≡ ceiling
  pub bound_live : row_of bound.0 made.state.live ≡ Some (ceiling_row made.lists ceiling)
  pub contradiction : HasContradiction made

-- what trying the candidate comes to, by the move that it makes
abbrev pub TriesCandidate : ℕ → ℕ → RowNo → List PairNo → List PairNo → EngineState → EngineState → Derived → Derived → Move → Type 0
TriesCandidate budget ceiling bound before after e new d made On = GoesFurther budget ceiling bound before after e new d made
TriesCandidate budget ceiling bound before after e new d made Best = ReachesCeiling ceiling bound after d made
TriesCandidate budget ceiling bound before after e new d made Bounded = ⊥

-- ---- the end

-- The matching is a largest one, as a row that holds nowhere shows; or as many rows were learned as the budget allows, the rows that are held
-- aren't refuted, and the matching is shorter than the ceiling.
abbrev pub Finds : ℕ → ℕ → Derived → Found → Type 0
Finds budget ceiling d (found.Best pairs) = IsFound pairs.items d × HasContradiction d
Finds budget ceiling d (found.Bounded pairs) = IsFound pairs.items d × (length pairs.items < ceiling) × IsSpent budget d

-- whatever text it stood for, each row that was learned since is later than the one before it
abbrev pub LearnsLater : Derived → Derived → Type 0
LearnsLater old new = (text : List ℕ) → StandsFor text old → AreLater (pair_count new.lists) (learned_rows (notes_of new.lists (text ++ new.pending)))

-- What a search does to a derivation: lines that keep the law of a written proof were added, no more rows were learned than the budget allows,
-- and the row of the ceiling is live.
pub record Searches (budget ceiling : ℕ) (bound : RowNo) (old new : Derived) : Type 0 where
  pub goes_on : GoesOn old new
  pub lawful : StaysLawful old new
  pub ready : IsReady new
  pub within : new.held.learn_notes ≤ budget
  pub later : LearnsLater old new
  pub bound_live : row_of bound.0 new.state.live ≡ Some (ceiling_row new.lists ceiling)
