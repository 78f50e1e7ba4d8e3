-- The loop of a search: what is so of it since its start, and what its steps lead to. It makes no restart.
use Rattle.std.specs.Prelude.{◌≡◌, ◌<◌, ℕ, ◌+◌, ◌-◌, ◌*◌, List, length}
use Rattle.hrt_base.specs.declared.numbered.PairNo.{PairNo}
use Rattle.rank_tables.specs.Instance.{pair_count}
use Rattle.derivation.specs.Derived.{Derived}
use Rattle.pb_propagate.specs.Entries.{level_of}
use Rattle.pb_propagate.specs.Engines.{EngineState}
use Rattle.search_measure.specs.Recorded.{GoesOn}
use Rattle.pb_search.specs.declared.limits.Limits.{Limits}
use Rattle.pb_search.specs.declared.moves.Move.{Move}
use Rattle.pb_search.specs.declared.moves.Move.TheVariants.{On, Best, Bounded}
use Rattle.pb_search.specs.Knowing.{HasContradiction, IsFound, Knows, work_left}
use Rattle.pb_search.specs.Moves.{IsSpent}
use Rattle.pb_search.specs.Searching.{IsCalm, IsSearching, MeetsConflict}
use Rattle.pb_search.specs.Tried.{Searches, StaysMarked}

-- ---- what is so

-- Since the first derivation, in which nothing was learned, lines were added that keep the law of a written proof, and no row was made since
-- the last mark. What a search knows is so.
pub record HasCome (limits : Limits) (pairs : List PairNo) (first d : Derived) : Type 0 where
  pub unlearned : first.held.learn_notes ≡ 0
  pub goes_on : GoesOn first d
  pub marked : StaysMarked first d
  pub knows : Knows limits.ceiling limits.bound_row pairs d

-- before propagation
pub record IsAtStep (limits : Limits) (pairs : List PairNo) (first : Derived) (e : EngineState) (d : Derived) : Type 0 where
  pub since : ℕ
  pub is : IsSearching first limits.budget 0 since e d
  pub come : HasCome limits pairs first d

-- at a conflict
pub record IsAtConflict (limits : Limits) (pairs : List PairNo) (first : Derived) (e : EngineState) (d : Derived) : Type 0 where
  pub since : ℕ
  pub is : MeetsConflict first limits.budget 0 since e d
  pub come : HasCome limits pairs first d

-- where nothing is due
pub record IsAtRest (limits : Limits) (pairs : List PairNo) (first : Derived) (e : EngineState) (d : Derived) : Type 0 where
  pub since : ℕ
  pub is : IsCalm first limits.budget 0 since e d
  pub come : HasCome limits pairs first d

-- ---- the end

-- what a search ends in, by its last move
abbrev pub EndsIn : Limits → List PairNo → Derived → Derived → Move → Type 0
EndsIn limits pairs first d On = ⊥
EndsIn limits pairs first d Best = Searches limits.budget limits.ceiling limits.bound_row first d × IsFound pairs d × HasContradiction d
EndsIn limits pairs first d Bounded = Searches limits.budget limits.ceiling limits.bound_row first d × IsFound pairs d × (length pairs < limits.ceiling) × IsSpent limits.budget d

-- ---- a step

-- one more row was learned
pub record CountsOne (old new : Derived) : Type 0 where
  pub lists : new.lists ≡ old.lists
  pub learned : new.held.learn_notes ≡ old.held.learn_notes + 1

-- what a conflict leads to: a row is learned, or the search ends
abbrev pub Follows : Limits → List PairNo → Derived → Derived → EngineState → Derived → Move → Type 0
Follows limits pairs first d new made On = IsAtStep limits pairs first new made × CountsOne d made
Follows limits pairs first d new made move = EndsIn limits pairs first made move

-- where the budget is spent a conflict above level 0 ends the search, and no line is added before
abbrev pub StopsWhereSpent : Limits → EngineState → Derived → Derived → Move → Type 0
StopsWhereSpent limits e d made move = 0 < level_of e.trail → d.held.learn_notes ≡ limits.budget → (move ≡ Bounded) × (made ≡ d)

-- how far a search is from its end: rows that the budget leaves, then rows to load and pairs to gain, then free variables
abbrev pub distance_left : Limits → List PairNo → EngineState → Derived → ℕ
distance_left limits pairs e d =
    ((limits.budget - d.held.learn_notes) * (pair_count d.lists + limits.ceiling + 1) + work_left limits.ceiling pairs d) * (pair_count d.lists + 1) + (pair_count d.lists - length e.trail)

-- what a step leads to: the search goes on and is nearer to its end, or it ends
abbrev pub LeadsTo : Limits → List PairNo → List PairNo → Derived → EngineState → EngineState → Derived → Derived → Move → Type 0
LeadsTo limits before after first e new d made On = IsAtStep limits after first new made × (distance_left limits after new made < distance_left limits before e d)
LeadsTo limits before after first e new d made move = EndsIn limits after first made move
