-- The tables that an instance keeps beside its lists: each is an equation with what the lists say.
use Rattle.std.specs.Prelude.{◌≡◌, ℕ, ◌≤◌, List, length, map}
use Rattle.hrt_base.specs.declared.numbered.PairNo.{PairNo}
use Rattle.rank_tables.specs.declared.entry.PairEntry.{PairEntry}
use Rattle.rank_tables.specs.Numbers.{below, numbers_to}
use Rattle.rank_tables.specs.Instance.{Lists, pair_count, pair_at, rank_by_resident, rank_by_hospital, pairs_of_resident, pairs_as_listed, one_sided}
use Rattle.rank_tables.specs.Terms.{model_terms}
use Rattle.rank_tables.specs.WellFormed.{IsWellFormed, most_pairs, most_terms}

-- p is the number of a pair
abbrev pub IsPairNo : Lists → ℕ → Type 0
IsPairNo lists p = (1 ≤ p) × (p ≤ pair_count lists)

-- p is the number of a pair of this resident
pub record IsOfResident (lists : Lists) (r p : ℕ) : Type 0 where
  pub number : IsPairNo lists p
  pub resident : (pair_at lists p).resident ≡ r

-- p is the number of a pair of this hospital
pub record IsOfHospital (lists : Lists) (h p : ℕ) : Type 0 where
  pub number : IsPairNo lists p
  pub hospital : (pair_at lists p).hospital ≡ h

-- pairs by their numbers
abbrev pub numbers_of : List PairNo → List ℕ
numbers_of ps = map (λ (p : PairNo). p.0) ps

-- what is kept of pair p
abbrev pub entry_of : Lists → ℕ → PairEntry
entry_of lists p = record {
  resident = (pair_at lists p).resident;
  hospital = (pair_at lists p).hospital;
  resident_rank = rank_by_resident lists p;
  hospital_rank = rank_by_hospital lists p;
}

-- The entries by pair number, the pairs of each resident and of each hospital in the order of its list, and the count of
-- namings that aren't answered.
pub record AreTables (lists : Lists) (entries : List PairEntry) (by_resident by_hospital : List (List PairNo)) (unanswered : ℕ) : Type 0 where
  pub well_formed : IsWellFormed lists
  pub few_pairs : pair_count lists ≤ most_pairs
  pub entries_are : entries ≡ map (entry_of lists) (numbers_to (pair_count lists))
  pub residents_are : map numbers_of by_resident ≡ map (pairs_of_resident lists) (below (length lists.residents))
  pub hospitals_are : map numbers_of by_hospital ≡ map (pairs_as_listed lists) (below (length lists.hospitals))
  pub unanswered_is : unanswered ≡ one_sided lists

-- The tables, and the count of the model's terms, which is within the limit.
pub record IsKept (lists : Lists) (entries : List PairEntry) (by_resident by_hospital : List (List PairNo)) (unanswered terms : ℕ) : Type 0 where
  pub tables : AreTables lists entries by_resident by_hospital unanswered
  pub terms_are : terms ≡ model_terms lists
  pub few_terms : model_terms lists ≤ most_terms
