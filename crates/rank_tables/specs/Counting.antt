-- Words for the private functions that count the terms of the model. No public clause cites them.
use Rattle.std.specs.Prelude.{◌≡◌, ℕ, ◌+◌, ◌-◌, ◌*◌, ◌≤◌, true, ◌&&◌, ◌==◌, nat_le, nat_lt, if◌then◌else◌, List, [], ◌∷◌, length, map, count_by, sum_by, option_map, unwrap_or, slice_get, slice_index_or}
use Rattle.std.specs.List.{list_all}
use Rattle.hrt_base.specs.declared.numbered.PairNo.{PairNo}
use Rattle.rank_tables.specs.declared.draft.DraftHospital.{DraftHospital}
use Rattle.rank_tables.specs.declared.entry.PairEntry.{PairEntry}
use Rattle.rank_tables.specs.declared.terms.Ranked.{Ranked}
use Rattle.rank_tables.specs.declared.terms.Run.{Run}
use Rattle.rank_tables.specs.declared.terms.Side.{Side}
use Rattle.rank_tables.specs.declared.terms.Side.TheVariants.{Resident, Hospital}

-- what stands past the end of the entries
abbrev pub no_entry : PairEntry
no_entry = record { resident = 0; hospital = 0; resident_rank = 0; hospital_rank = 0 }

-- how many posts one of these hospitals has
abbrev pub capacity_in : List DraftHospital → ℕ → ℕ
capacity_in hospitals h = unwrap_or (option_map (λ hospital. hospital.capacity) (slice_get hospitals h)) 0

-- the rank that a side gives a pair, and whether the pair counts: in the row of its resident where its hospital has a post, in that
-- of its hospital always
abbrev pub ranked_of : Side → List DraftHospital → PairEntry → Ranked
ranked_of Resident hospitals entry = record { rank = entry.resident_rank; counts = nat_lt 0 (capacity_in hospitals entry.hospital) }
ranked_of Hospital hospitals entry = record { rank = entry.hospital_rank; counts = true }

-- the pairs of a row as a side ranks them
abbrev pub ranked_row : Side → List DraftHospital → List PairEntry → List PairNo → List Ranked
ranked_row side hospitals entries row = map (λ (p : PairNo). ranked_of side hospitals (slice_index_or entries (p.0 - 1) no_entry)) row

-- the number of one of these entries, from 1 on
abbrev pub IsEntryNo : List PairEntry → PairNo → Type 0
IsEntryNo entries p = (1 ≤ p.0) × (p.0 ≤ length entries)

-- how many count
abbrev pub counting : List Ranked → ℕ
counting xs = count_by (λ (x : Ranked). x.counts) xs

-- the sum, over those that count, of how many are ranked at least as high, itself among them
abbrev pub as_high : List Ranked → ℕ
as_high xs = sum_by (λ (x : Ranked). if x.counts then count_by (λ (y : Ranked). nat_le y.rank x.rank) xs else 0) xs

-- the numbers of the ranks don't fall, and the first is at least this one
abbrev pub IsRising : ℕ → List Ranked → Type 0
IsRising rank [] = Unit {0}
IsRising rank (x ∷ xs) = (rank ≤ x.rank) × IsRising x.rank xs

-- what a run says of the pairs that it has met
pub record IsRun (run : Run) (xs : List Ranked) : Type 0 where
  pub listed : run.listed ≡ length xs
  pub tied : run.tied ≡ count_by (λ (x : Ranked). x.counts && x.rank == run.rank) xs
  pub within : list_all (λ (x : Ranked). nat_le x.rank run.rank) xs ≡ true
  pub terms : run.terms + counting xs ≡ as_high xs

-- the counts of a run are small enough to be kept
abbrev pub IsSmall : Run → Type 0
IsSmall run = (run.tied ≤ run.listed) × (run.terms ≤ run.listed * run.listed)
