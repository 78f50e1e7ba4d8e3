-- The moves of a search, and where each leads.
use Rattle.std.specs.Prelude.{◌≡◌, ◌+◌, ◌<◌, ◌≤◌, ◌*◌, ◌-◌, ◌^◌, ℕ, List, [], ◌∷◌, ◌++◌, None}
use Rattle.std.specs.List.{All}
use Rattle.hrt_base.specs.declared.literal.Lit.{Lit}
use Rattle.hrt_base.specs.declared.numbered.RowNo.{RowNo}
use Rattle.pb_rows.specs.Terms.{PlainRow}
use Rattle.pb_rows.specs.Closure.{Keeps, Refuted, none}
use Rattle.rank_tables.specs.Instance.{pair_count}
use Rattle.proof_lines.specs.declared.note.Note.TheVariants.{Learn}
use Rattle.proof_rules.specs.States.{IsInOrder as AreNumbersInOrder}
use Rattle.proof_rules.specs.Held.{held_rows}
use Rattle.derivation.specs.Derived.{Derived, StandsFor, StaysValid}
use Rattle.derivation.specs.Pieces.{TakesNote}
use Rattle.derivation.specs.Ready.{IsReady}
use Rattle.row_arena.specs.Held.{Held}
use Rattle.pb_propagate.specs.Entries.{level_of, up_to}
use Rattle.pb_propagate.specs.Engines.{AreKeptBelow, EngineState, IsIdle, decisions_at, set_at}
use Rattle.pb_propagate.specs.Moments.{IsInOrder}
use Rattle.conflict_cuts.specs.Exact.{ReachesConflict, ReachesQuiet}
use Rattle.conflict_cuts.specs.Learned.{Asserts}
use Rattle.agreement.specs.Agreement.{Agree}
use Rattle.search_measure.specs.Recorded.{GoesOn, HasLearned}
use Rattle.search_measure.specs.Trails.{SomeOpen}
use Rattle.pb_search.specs.Searching.{AreJoined, IsCalm, IsSearching, MeetsConflict}

-- ---- start and propagation

-- an engine and a derivation that are joined can be searched, where no held row is open below the engine's level
abbrev pub SearchStarts : Type 0
SearchStarts = (d : Derived) (budget : ℕ) (e : EngineState) → AreJoined budget e d → AreKeptBelow e → IsSearching d budget 0 0 e d

abbrev pub SearchMeetsConflict : Type 0
SearchMeetsConflict = (first : Derived) (budget restarts since place : ℕ) (e new : EngineState) (d : Derived) → IsSearching first budget restarts since e d → ReachesConflict e new place → MeetsConflict first budget restarts since new d

abbrev pub SearchComesToRest : Type 0
SearchComesToRest = (first : Derived) (budget restarts since : ℕ) (e new : EngineState) (d : Derived) → IsSearching first budget restarts since e d → ReachesQuiet e new → IsCalm first budget restarts since new d

-- ---- where nothing is due

-- a literal was decided
pub record Decides (l : Lit) (e new : EngineState) : Type 0 where
  pub vars : new.vars ≡ e.vars
  pub held : new.held ≡ e.held
  pub trail : new.trail ≡ e.trail ++ record { lit = l; reason = None } ∷ []

abbrev pub CalmDecides : Type 0
CalmDecides = (first : Derived) (budget restarts since : ℕ) (l : Lit) (e new : EngineState) (d : Derived) → IsInOrder e → IsCalm first budget restarts since e d → Decides l e new → IsSearching first budget restarts since new d

-- rows were added, and the engine went back to a level at which one of them is open and below which none is
pub record AddsRows (level : ℕ) (e new : EngineState) : Type 0 where
  pub more : List Held
  pub held : new.held ≡ e.held ++ more
  pub trail : new.trail ≡ up_to level e.trail
  pub lower : (k : ℕ) → k < level → All (λ h. Keeps (set_at k e) h.row) more
  pub some_open : SomeOpen new

-- lines that learn nothing were added, and engine and derivation are joined again
abbrev pub CalmAddsRows : Type 0
CalmAddsRows =
    (first : Derived) (budget restarts since level : ℕ) (e new : EngineState) (d made : Derived) → IsInOrder e → IsCalm first budget restarts since e d → GoesOn d made → made.held.learn_notes ≡ d.held.learn_notes → AreJoined budget new made →
    AddsRows level e new → IsSearching first budget restarts since new made

-- a restart: after 100 learned rows or more the engine goes back to level 0
pub record Restarts (e new : EngineState) : Type 0 where
  pub vars : new.vars ≡ e.vars
  pub held : new.held ≡ e.held
  pub idle : IsIdle new

abbrev pub CalmRestarts : Type 0
CalmRestarts = (first : Derived) (budget restarts since : ℕ) (e new : EngineState) (d : Derived) → IsCalm first budget restarts since e d → 100 ≤ since → Restarts e new → IsCalm first budget (restarts + 1) 0 new d

-- ---- after a conflict

-- lines were added that hold and learn nothing, and the engine still agrees
pub record Analyzed (e : EngineState) (d made : Derived) : Type 0 where
  pub goes_on : GoesOn d made
  pub held : made.held ≡ d.held
  pub agree : Agree e made
  pub numbers : AreNumbersInOrder made.state

-- the row was noted as learned and added, and the engine went back to the level
pub record LearnsRow (id : RowNo) (row : PlainRow) (level : ℕ) (l : Lit) (e new : EngineState) (made noted : Derived) : Type 0 where
  pub note : TakesNote (Learn id (decisions_at level e) l) made noted
  pub valid : StaysValid made noted
  pub ready : IsReady noted
  pub agree : Agree new noted
  pub place : ℕ
  pub held : new.held ≡ e.held ++ record { place = place; row = row; tag = id.0 } ∷ []
  pub trail : new.trail ≡ up_to level e.trail

abbrev pub ConflictLearns : Type 0
ConflictLearns =
    (first : Derived) (budget restarts since level : ℕ) (id : RowNo) (row : PlainRow) (l : Lit) (e new : EngineState) (d made noted : Derived) → IsInOrder e → MeetsConflict first budget restarts since e d → d.held.learn_notes < budget →
    Analyzed e d made → Asserts e row level l → LearnsRow id row level l e new made noted → IsSearching first budget restarts (since + 1) new noted

-- ---- the end

-- as many rows were learned as the budget allows, and the rows that are held aren't refuted
pub record IsSpent (budget : ℕ) (d : Derived) : Type 0 where
  pub spent : d.held.learn_notes ≡ budget
  pub unrefuted : Refuted (held_rows d.state.live d.held) none → ⊥

-- at a conflict above level 0 with the budget spent
abbrev pub ConflictSpends : Type 0
ConflictSpends = (first : Derived) (budget restarts since : ℕ) (e : EngineState) (d : Derived) → MeetsConflict first budget restarts since e d → AreNumbersInOrder d.state → 0 < level_of e.trail → d.held.learn_notes ≡ budget → IsSpent budget d

-- where the first derivation had learned nothing, a budget that is spent is no more than the bound
abbrev pub SpentBudgetIsSmall : Type 0
SpentBudgetIsSmall =
    (first now : Derived) (budget restarts since : ℕ) (last text : List ℕ) → HasLearned first now restarts since last → restarts ≤ 10000 → first.held.learn_notes ≡ 0 → StandsFor text first → IsSpent budget now →
    budget ≤ 10001 * (2 ^ pair_count now.lists - 1)
