-- Pairs by the ranks that their residents give them.
use Rattle.std.specs.Prelude.{◌≡◌, ◌⊎◌, ◌+◌, ◌≤◌, ◌<◌, ℕ, List, length, map, slice_index_or, Option, None, Some}
use Rattle.std.specs.List.Sorted.{IsNonDecreasingBy, IsPermutation}
use Rattle.hrt_base.specs.declared.literal.Lit.{Lit}
use Rattle.rank_tables.specs.Instance.{Lists, pair_count, rank_by_resident}
use Rattle.rank_tables.specs.Numbers.{numbers_to}
use Rattle.rank_tables.specs.Tables.{IsPairNo}
use Rattle.pb_propagate.specs.Engines.{EngineState}
use Rattle.search_guides.specs.declared.ranked.RankedPair.{RankedPair}
use Rattle.search_guides.specs.Picks.{IsFree, IsHighest, picked}
use Rattle.search_guides.specs.Restarts.{Tallies}

-- pair p, with the rank of its hospital by its resident
abbrev pub ranked : Lists → ℕ → RankedPair
ranked lists p = record { rank = rank_by_resident lists p; pair = p }

-- all pairs with their ranks, by their numbers
abbrev pub all_ranked : Lists → List RankedPair
all_ranked lists = map (ranked lists) (numbers_to (pair_count lists))

-- All pairs with their ranks, by rising rank, and those of one rank by rising number.
pub record AreByRank (lists : Lists) (order : List RankedPair) : Type 0 where
  pub pairs : IsPermutation (all_ranked lists) order
  pub ranks : IsNonDecreasingBy (λ e. e.rank) order
  pub numbers : (k : ℕ) (d : RankedPair) → k + 1 < length order → (slice_index_or order k d).rank ≡ (slice_index_or order (k + 1) d).rank
      → (slice_index_or order k d).pair ≤ (slice_index_or order (k + 1) d).pair

-- what a guide by rank shows: the pairs in the order in which it looks at them, and its tallies
pub record Ranking : Type 0 where
  pub order : List RankedPair
  pub tallies : Tallies

-- Of the free pairs, v has the least rank by its resident, and it is the least that has.
pub record IsLeastRanked (lists : Lists) (e : EngineState) (v : ℕ) : Type 0 where
  pub free : IsFree e v
  pub pair : IsPairNo lists v
  pub least : (w : ℕ) → IsPairNo lists w → IsFree e w → rank_by_resident lists v ≤ rank_by_resident lists w
  pub first : (w : ℕ) → w < v → IsPairNo lists w → IsFree e w → rank_by_resident lists v < rank_by_resident lists w

-- no pair is free, and v is the least of the variables that are
pub record IsBesides (lists : Lists) (e : EngineState) (v : ℕ) : Type 0 where
  pub none : (w : ℕ) → IsPairNo lists w → IsFree e w → ⊥
  pub least : IsHighest e (λ _. 0) e.vars v

-- what is found by rank: the least ranked of the free pairs, and where none is free the least free variable
abbrev pub IsRankFound : Lists → EngineState → Option ℕ → Type 0
IsRankFound lists e None = (w : ℕ) → IsFree e w → ⊥
IsRankFound lists e (Some v) = IsLeastRanked lists e v ⊎ IsBesides lists e v

-- the pick by rank, as true
abbrev pub IsRankPick : Lists → EngineState → Option Lit → Type 0
IsRankPick lists e pick = (found : Option ℕ) × IsRankFound lists e found × (pick ≡ picked found)
