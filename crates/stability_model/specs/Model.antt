-- The 0/1 model of weak stability, after Kwanashie and Manlove (2014). Variable p is pair number p.
use Rattle.std.specs.Prelude.{◌≡◌, ◌≤◌, ℕ, ◌+◌, ◌-◌, Bool, true, false, not, ◌&&◌, ◌==◌, nat_lt, if◌then◌else◌, List, [], ◌∷◌, ◌++◌, length, map, filter, count_by, slice_get, Option, Some, None, ℤ, pos, neg_ℤ}
use Rattle.std.specs.List.{All, list_all}
use Rattle.hrt_base.specs.declared.literal.Term.{Term}
use Rattle.pb_rows.specs.Terms.{PlainRow, Written}
use Rattle.pb_rows.specs.Points.{IsCovered, Point, value_at}
use Rattle.pb_rows.specs.Rows.{IsShort, IsWellFormedRow, holds, in_normal_form}
use Rattle.pb_rows.specs.Formula.{Formula}
use Rattle.rank_tables.specs.Numbers.{below, numbers_to, is_in}
use Rattle.rank_tables.specs.Instance.{Lists, capacity_of, pair_at, pair_count, rising_pairs_of_hospital, pairs_of_resident}
use Rattle.rank_tables.specs.Terms.{is_as_good_for_hospital, is_as_good_for_resident}
use Rattle.rank_tables.specs.Stability.{blocks, is_matching, is_weakly_stable}
use Rattle.rank_tables.specs.WellFormed.{IsWellFormed, most_pairs}

-- a coefficient on the variable of a pair
abbrev pub term : ℤ → ℕ → Term
term coef p = record { coef = coef; lit = record { var = p; neg = false } }

-- ---- the rows of residents and of hospitals

-- at most so many of the pairs
abbrev pub at_most : ℕ → List ℕ → Written
at_most c ps = record { terms = map (λ p. term (neg_ℤ (pos 1)) p) ps; at_least = neg_ℤ (pos c) }

-- whether there is one
abbrev pub has_any : List ℕ → Bool
has_any [] = false
has_any (p ∷ ps) = true

-- whether a resident has an acceptable pair
abbrev pub resident_has_pair : Lists → ℕ → Bool
resident_has_pair lists r = has_any (pairs_of_resident lists r)

-- whether a hospital has an acceptable pair
abbrev pub hospital_has_pair : Lists → ℕ → Bool
hospital_has_pair lists h = has_any (rising_pairs_of_hospital lists h)

-- a resident is in at most one pair
abbrev pub resident_row : Lists → ℕ → Written
resident_row lists r = at_most 1 (pairs_of_resident lists r)

-- a hospital is in at most as many pairs as it has posts
abbrev pub hospital_row : Lists → ℕ → Written
hospital_row lists h = at_most (capacity_of lists h) (rising_pairs_of_hospital lists h)

-- the rows of the residents that have an acceptable pair, in their order
abbrev pub resident_rows : Lists → List Written
resident_rows lists = map (resident_row lists) (filter (resident_has_pair lists) (below (length lists.residents)))

-- the rows of the hospitals that have an acceptable pair, in their order
abbrev pub hospital_rows : Lists → List Written
hospital_rows lists = map (hospital_row lists) (filter (hospital_has_pair lists) (below (length lists.hospitals)))

-- ---- the rows of pairs

-- the coefficient of pair q in the row of pair p, whose hospital has c posts: c + 1 for p itself, c for another that its
-- resident ranks at least as high, 1 for another that its hospital ranks at least as high, else 0
abbrev pub stability_coef : Lists → ℕ → ℕ → ℕ
stability_coef lists p q =
    if q == p then capacity_of lists (pair_at lists p).hospital + 1
    else if is_as_good_for_resident lists p q then capacity_of lists (pair_at lists p).hospital
    else if is_as_good_for_hospital lists p q then 1
    else 0

-- the row of pair p, whose hospital has c posts: with these coefficients the sum is at least c; terms with coefficient 0 are left out
abbrev pub pair_row : Lists → ℕ → Written
pair_row lists p = record {
  terms = map (λ q. term (pos (stability_coef lists p q)) q) (filter (λ q. nat_lt 0 (stability_coef lists p q)) (numbers_to (pair_count lists)));
  at_least = pos (capacity_of lists (pair_at lists p).hospital);
}

-- ---- the model

-- as written: by residents, then by hospitals, then by pairs
abbrev pub written_rows : Lists → List Written
written_rows lists = resident_rows lists ++ hospital_rows lists ++ map (pair_row lists) (numbers_to (pair_count lists))

-- how many terms a row has
abbrev pub term_count : Written → ℕ
term_count row = length row.terms

-- the model's rows in normal form: row number k, from 1 on, stands at place k - 1
abbrev pub rows : Lists → List PlainRow
rows lists = map in_normal_form (written_rows lists)

-- the objective, -1 for each pair, to be made as small as it can be
abbrev pub objective : Lists → List Term
objective lists = map (λ p. term (neg_ℤ (pos 1)) p) (numbers_to (pair_count lists))

-- variables, objective and rows together
abbrev pub formula : Lists → Formula
formula lists = record { vars = pair_count lists; objective = objective lists; rows = rows lists }

-- the number of a resident's row, None where the resident has no acceptable pair
abbrev pub resident_row_no : Lists → ℕ → Option ℕ
resident_row_no lists r = if resident_has_pair lists r then Some (count_by (resident_has_pair lists) (below r) + 1) else None

-- the number of a hospital's row, None where the hospital has no acceptable pair
abbrev pub hospital_row_no : Lists → ℕ → Option ℕ
hospital_row_no lists h =
    if hospital_has_pair lists h then Some (length (resident_rows lists) + count_by (hospital_has_pair lists) (below h) + 1) else None

-- the number of the row of pair p, behind all rows of residents and of hospitals
abbrev pub pair_row_no : Lists → ℕ → ℕ
pair_row_no lists p = length (resident_rows lists) + length (hospital_rows lists) + p

-- row number k is the normal form of this one
abbrev pub IsRow : Lists → ℕ → Written → Type 0
IsRow lists k row = slice_get (rows lists) (k - 1) ≡ Some (in_normal_form row)

-- ---- how large the rows are

-- a well-formed row over the variables 1 to `vars` whose numbers are at most 2^60
pub record IsShortRow (vars : ℕ) (r : PlainRow) : Type 0 where
  pub over : All (λ t. IsCovered vars t.lit.var) r.terms
  pub formed : IsWellFormedRow r
  pub short : IsShort r

-- each of these is such a row
pub record AreShortRows (vars : ℕ) (rs : List PlainRow) : Type 0 where
  pub each : All (IsShortRow vars) rs

-- each row of a model is one
pub record ModelRowsAreShort : Type 0 where
  pub of_each : (lists : Lists) → IsWellFormed lists → pair_count lists ≤ most_pairs → AreShortRows (pair_count lists) (rows lists)

-- ---- what the model says

-- whether every row of the model holds at the point
abbrev pub all_rows_hold : Lists → Point → Bool
all_rows_hold lists point = list_all (holds point) (rows lists)

-- the pairs whose variable is 1 at the point, in rising order
abbrev pub pairs_of_point : Lists → Point → List ℕ
pairs_of_point lists point = filter point (numbers_to (pair_count lists))

-- the point at which the variables of these pairs are 1, and the others 0
abbrev pub point_of_pairs : List ℕ → Point
point_of_pairs m = λ p. is_in p m

-- All rows hold exactly where the pairs of the point are a weakly stable matching, and the objective is minus their number.
pub record IsExact (lists : Lists) : Type 0 where
  pub rows : (point : Point) → all_rows_hold lists point ≡ is_weakly_stable lists (pairs_of_point lists point)
  pub objective : (point : Point) → value_at point (objective lists) ≡ neg_ℤ (pos (length (pairs_of_point lists point)))

-- At a matching the row of a pair holds exactly where that pair doesn't block.
abbrev pub TellsBlocking : Lists → ℕ → Type 0
TellsBlocking lists p =
    (m : List ℕ) → is_matching lists m ≡ true → holds (point_of_pairs m) (in_normal_form (pair_row lists p)) ≡ not (blocks lists m p)
