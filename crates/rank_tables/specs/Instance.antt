-- What an instance says: the written lists, the acceptable pairs and their numbers, the ranks.
use Rattle.std.specs.Prelude.{ℕ, ◌+◌, ◌-◌, Bool, not, ◌&&◌, ◌==◌, if◌then◌else◌, List, [], ◌∷◌, length, map, filter, filter_map, flat_map, slice_get, count_by, sum_by, Option, Some, None, option_map, unwrap_or, position}
use Rattle.std.specs.List.{concat}
use Rattle.rank_tables.specs.declared.draft.DraftResident.{DraftResident}
use Rattle.rank_tables.specs.declared.draft.DraftHospital.{DraftHospital}
use Rattle.rank_tables.specs.declared.draft.Draft.{Draft}
use Rattle.rank_tables.specs.Numbers.{below, numbers_to, is_in}

-- Both sides in the order of declaration: names, capacities, and numbers of the other side in groups, best first.
pub record Lists : Type 0 where
  pub residents : List DraftResident
  pub hospitals : List DraftHospital

-- the lists of a draft
abbrev pub lists_of : Draft → Lists
lists_of draft = record { residents = draft.residents.items; hospitals = draft.hospitals.items }

-- a resident's list as it is written, empty where there is no such resident
abbrev pub groups_of_resident : Lists → ℕ → List (List ℕ)
groups_of_resident lists r = unwrap_or (option_map (λ resident. resident.groups) (slice_get lists.residents r)) []

-- a hospital's list as it is written, empty where there is no such hospital
abbrev pub groups_of_hospital : Lists → ℕ → List (List ℕ)
groups_of_hospital lists h = unwrap_or (option_map (λ hospital. hospital.groups) (slice_get lists.hospitals h)) []

-- how many posts a hospital has
abbrev pub capacity_of : Lists → ℕ → ℕ
capacity_of lists h = unwrap_or (option_map (λ hospital. hospital.capacity) (slice_get lists.hospitals h)) 0

-- whether a resident names a hospital
abbrev pub resident_names : Lists → ℕ → ℕ → Bool
resident_names lists r h = is_in h (concat (groups_of_resident lists r))

-- whether a hospital names a resident
abbrev pub hospital_names : Lists → ℕ → ℕ → Bool
hospital_names lists h r = is_in r (concat (groups_of_hospital lists h))

-- A resident and a hospital, by their numbers.
pub record Pair : Type 0 where
  pub resident : ℕ
  pub hospital : ℕ

-- the acceptable pairs of a resident, in the order of its list
abbrev pub pairs_from : Lists → ℕ → List Pair
pairs_from lists r =
    map (λ h. record { resident = r; hospital = h }) (filter (λ h. hospital_names lists h r) (concat (groups_of_resident lists r)))

-- the acceptable pairs, by resident: pair number p, from 1 on, stands at place p - 1
abbrev pub pairs : Lists → List Pair
pairs lists = flat_map (pairs_from lists) (below (length lists.residents))

-- how many acceptable pairs there are
abbrev pub pair_count : Lists → ℕ
pair_count lists = length (pairs lists)

-- what stands where there is no pair
abbrev pub no_pair : Pair
no_pair = record { resident = 0; hospital = 0 }

-- pair number p, for p from 1 to the count of pairs
abbrev pub pair_at : Lists → ℕ → Pair
pair_at lists p = unwrap_or (slice_get (pairs lists) (p - 1)) no_pair

-- the number of the pair of a resident and a hospital, if it is acceptable
abbrev pub pair_no : Lists → ℕ → ℕ → Option ℕ
pair_no lists r h = option_map (λ place. place + 1) (position (λ q. q.resident == r && q.hospital == h) (pairs lists))

-- the rank of a number in a list of groups: 1 plus the number of groups before its group
abbrev pub rank_in : List (List ℕ) → ℕ → Option ℕ
rank_in [] x = None
rank_in (group ∷ groups) x = if is_in x group then Some 1 else option_map (λ rank. rank + 1) (rank_in groups x)

-- the rank of pair p's hospital in its resident's list
abbrev pub rank_by_resident : Lists → ℕ → ℕ
rank_by_resident lists p = unwrap_or (rank_in (groups_of_resident lists (pair_at lists p).resident) (pair_at lists p).hospital) 0

-- the rank of pair p's resident in its hospital's list
abbrev pub rank_by_hospital : Lists → ℕ → ℕ
rank_by_hospital lists p = unwrap_or (rank_in (groups_of_hospital lists (pair_at lists p).hospital) (pair_at lists p).resident) 0

-- the numbers of a resident's pairs, rising
abbrev pub pairs_of_resident : Lists → ℕ → List ℕ
pairs_of_resident lists r = filter (λ p. (pair_at lists p).resident == r) (numbers_to (pair_count lists))

-- the numbers of a hospital's pairs, rising
abbrev pub rising_pairs_of_hospital : Lists → ℕ → List ℕ
rising_pairs_of_hospital lists h = filter (λ p. (pair_at lists p).hospital == h) (numbers_to (pair_count lists))

-- the numbers of a hospital's pairs in the order of its list
abbrev pub pairs_as_listed : Lists → ℕ → List ℕ
pairs_as_listed lists h = filter_map (λ r. pair_no lists r h) (concat (groups_of_hospital lists h))

-- how many namings aren't answered
abbrev pub one_sided : Lists → ℕ
one_sided lists =
    sum_by (λ r. count_by (λ h. not (hospital_names lists h r)) (concat (groups_of_resident lists r))) (below (length lists.residents))
    + sum_by (λ h. count_by (λ r. not (resident_names lists r h)) (concat (groups_of_hospital lists h))) (below (length lists.hospitals))
