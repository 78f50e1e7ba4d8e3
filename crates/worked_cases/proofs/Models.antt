-- Models: rows, their numbers, and the two rules of deletion.
use Rattle.std.proofs.Common.{arith}
use Rattle.std.specs.Prelude.{◌≡◌, true, false, Some, None, [], ◌∷◌, pos, negsuc, ◌==◌, nat_le, ◌||◌, refl}
use Rattle.pb_rows.specs.Points.{value_at}
use Rattle.rank_tables.specs.Instance.{Lists}
use Rattle.rank_tables.specs.WellFormed.{IsWellFormed}
use Rattle.stability_model.specs.Model.{all_rows_hold, at_most, hospital_row_no, objective, pair_row, pair_row_no, pairs_of_point, point_of_pairs, resident_row_no, term, written_rows}
use Rattle.stability_model.specs.Gone.{ceiling, rule_a, rule_b}
use Rattle.worked_cases.specs.SmallInstances.{RowsWithoutPosts, hospital, resident, strict, tied}

-- its rows, as a model file lists them
pub tied-rows : written_rows tied
    ≡ at_most 1 (1 ∷ 2 ∷ []) ∷ at_most 1 (3 ∷ []) ∷ at_most 1 (1 ∷ 3 ∷ []) ∷ at_most 1 (2 ∷ [])
    ∷ record { terms = term (pos 2) 1 ∷ term (pos 1) 3 ∷ []; at_least = pos 1 }
    ∷ record { terms = term (pos 1) 1 ∷ term (pos 2) 2 ∷ []; at_least = pos 1 }
    ∷ record { terms = term (pos 1) 1 ∷ term (pos 2) 3 ∷ []; at_least = pos 1 } ∷ []
tied-rows = refl

pub tied-at_most : at_most 1 (1 ∷ 2 ∷ []) ≡ record { terms = term (negsuc 0) 1 ∷ term (negsuc 0) 2 ∷ []; at_least = negsuc 0 }
tied-at_most = refl

-- row numbers
pub tied-resident : resident_row_no tied 1 ≡ Some 2
tied-resident = refl

pub tied-hospital : hospital_row_no tied 1 ≡ Some 4
tied-hospital = refl

pub tied-pair : pair_row_no tied 3 ≡ 7
tied-pair = refl

-- +2 x1 +1 x3 >= 1, the row of the first pair
pub tied-row_1 : pair_row tied 1 ≡ record { terms = term (pos 2) 1 ∷ term (pos 1) 3 ∷ []; at_least = pos 1 }
tied-row_1 = refl

pub tied-row_2 : pair_row tied 2 ≡ record { terms = term (pos 1) 1 ∷ term (pos 2) 2 ∷ []; at_least = pos 1 }
tied-row_2 = refl

-- the rows hold together at the two weakly stable lists, and not at the blocked one
pub tied-rows_one : all_rows_hold tied (λ p. p == 1) ≡ true
tied-rows_one = refl

pub tied-rows_two : all_rows_hold tied (point_of_pairs (3 ∷ 2 ∷ [])) ≡ true
tied-rows_two = refl

pub tied-rows_blocked : all_rows_hold tied (point_of_pairs (2 ∷ [])) ≡ false
tied-rows_blocked = refl

pub tied-in_order : pairs_of_point tied (point_of_pairs (3 ∷ 2 ∷ [])) ≡ 2 ∷ 3 ∷ []
tied-in_order = refl

pub tied-objective : value_at (λ p. nat_le 2 p) (objective tied) ≡ negsuc 1
tied-objective = refl

pub strict-a_y : rule_a strict (λ _. false) 2 ≡ true
strict-a_y = refl

pub strict-b_x : rule_b strict (λ _. false) 3 ≡ true
strict-b_x = refl

pub strict-a_x : rule_a strict (λ p. nat_le 2 p) 1 || rule_b strict (λ p. nat_le 2 p) 1 ≡ false
strict-a_x = refl

pub strict-ceiling : ceiling strict (λ p. nat_le 2 p) ≡ 1
strict-ceiling = refl

-- resident a: x / resident b: / hospital y 3: / hospital x 0: a
abbrev pub bare : Lists
bare = record {
  residents = resident 97 ((1 ∷ []) ∷ []) ∷ resident 98 [] ∷ [];
  hospitals = hospital 121 3 [] ∷ hospital 120 0 ((0 ∷ []) ∷ []) ∷ [];
}

-- with no post the pair itself keeps coefficient 1
pub bare-rows : written_rows bare ≡ at_most 1 (1 ∷ []) ∷ at_most 0 (1 ∷ []) ∷ record { terms = term (pos 1) 1 ∷ []; at_least = pos 0 } ∷ []
bare-rows = refl

-- nor is a hospital without posts a case of its own where it has more pairs
pub no_posts_rows : RowsWithoutPosts
no_posts_rows = refl

pub bare-resident : resident_row_no bare 1 ≡ None
bare-resident = refl

pub bare-hospital : hospital_row_no bare 1 ≡ Some 2
bare-hospital = refl

pub tied-well_formed : IsWellFormed tied
tied-well_formed = record {
  few_residents = omega arith;
  few_hospitals = omega arith;
  resident_names = refl;
  hospital_names = refl;
  residents_apart = refl;
  hospitals_apart = refl;
  capacities = refl;
  resident_lists = refl;
  hospital_lists = refl;
}

pub bare-well_formed : IsWellFormed bare
bare-well_formed = record {
  few_residents = omega arith;
  few_hospitals = omega arith;
  resident_names = refl;
  hospital_names = refl;
  residents_apart = refl;
  hospitals_apart = refl;
  capacities = refl;
  resident_lists = refl;
  hospital_lists = refl;
}
