-- Which lists an instance may be built from.
use Rattle.std.specs.Prelude.{ℕ, ◌≤◌, Bool, false, true, ◌&&◌, nat_lt, nat_le, List, [], ◌∷◌, length, map, IsTrue}
use Rattle.std.specs.List.{concat, list_all}
use Rattle.rank_tables.specs.Names.{is_name, are_apart}
use Rattle.rank_tables.specs.Numbers.{is_distinct}
use Rattle.rank_tables.specs.Instance.{Lists}

-- the most residents that an instance may have
abbrev pub most_residents : ℕ
most_residents = 20000

-- the most hospitals that an instance may have
abbrev pub most_hospitals : ℕ
most_hospitals = 20000

-- the most posts that one hospital may have
abbrev pub most_capacity : ℕ
most_capacity = 20000

-- the most acceptable pairs that an instance may have
abbrev pub most_pairs : ℕ
most_pairs = 100000

-- the most terms that an instance's 0/1 model may have
abbrev pub most_terms : ℕ
most_terms = 8000000

-- the names of the residents, in the order of declaration
abbrev pub names_of_residents : Lists → List (List ℕ)
names_of_residents lists = map (λ r. r.name) lists.residents

-- the names of the hospitals, in the order of declaration
abbrev pub names_of_hospitals : Lists → List (List ℕ)
names_of_hospitals lists = map (λ h. h.name) lists.hospitals

-- the group is not empty
abbrev pub is_group : List ℕ → Bool
is_group [] = false
is_group (x ∷ group) = true

-- groups of numbers below count: none is empty, and no number stands twice
abbrev pub is_list : ℕ → List (List ℕ) → Bool
is_list count groups = list_all is_group groups && list_all (λ x. nat_lt x count) (concat groups) && is_distinct (concat groups)

-- Lists within the limits, whose names are names and differ on each side, and whose groups have numbers of the other side,
-- none empty and no number twice in a list.
pub record IsWellFormed (lists : Lists) : Type 0 where
  pub few_residents : length lists.residents ≤ most_residents
  pub few_hospitals : length lists.hospitals ≤ most_hospitals
  pub resident_names : IsTrue (list_all is_name (names_of_residents lists))
  pub hospital_names : IsTrue (list_all is_name (names_of_hospitals lists))
  pub residents_apart : IsTrue (are_apart (names_of_residents lists))
  pub hospitals_apart : IsTrue (are_apart (names_of_hospitals lists))
  pub capacities : IsTrue (list_all (λ h. nat_le h.capacity most_capacity) lists.hospitals)
  pub resident_lists : IsTrue (list_all (λ r. is_list (length lists.hospitals) r.groups) lists.residents)
  pub hospital_lists : IsTrue (list_all (λ h. is_list (length lists.residents) h.groups) lists.hospitals)
