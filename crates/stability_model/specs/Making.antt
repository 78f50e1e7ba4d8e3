-- What the steps of making a model leave.
use Rattle.std.specs.Prelude.{◌≡◌, ◌≤◌, ℕ, ◌+◌, ◌==◌, nat_le, if◌then◌else◌, List, [], ◌∷◌, length, map, get_or, Option, Some, None, pos}
use Rattle.hrt_base.specs.declared.literal.Term.{Term}
use Rattle.std.specs.declared.vec.Vec.{Vec}
use Rattle.pb_rows.specs.Terms.{PlainRow}
use Rattle.pb_rows.specs.Rows.{in_normal_form}
use Rattle.rank_tables.specs.Numbers.{below}
use Rattle.rank_tables.specs.Instance.{Lists, capacity_of, pair_at, pair_count, rank_by_hospital, rank_by_resident}
use Rattle.stability_model.specs.Model.{AreShortRows, at_most, has_any, hospital_row_no, hospital_rows, resident_row_no, resident_rows, rows, term}

-- the items of each of some lists that grow
abbrev pub items_of : {T A : Type 0} → List (Vec T A) → List (List T)
items_of buckets = map (λ bucket. bucket.items) buckets

-- the items of the list at place h, none past the end
abbrev pub bucket_at : {T A : Type 0} → List (Vec T A) → ℕ → List T
bucket_at buckets h = get_or (items_of buckets) h []

-- the row that at most c of these pairs are taken, none where there is no pair
abbrev pub row_if_any : ℕ → List ℕ → List PlainRow
row_if_any c ps = if has_any ps then in_normal_form (at_most c ps) ∷ [] else []

-- the number of the row of these pairs behind so many others, None where there is no pair
abbrev pub number_after : ℕ → List ℕ → Option ℕ
number_after before ps = if has_any ps then Some (before + 1) else None

-- the coefficient of pair q in the row of pair p, for a pair q of the resident of p
abbrev pub resident_share : Lists → ℕ → ℕ → ℕ
resident_share lists p q =
    if q == p then capacity_of lists (pair_at lists p).hospital + 1
    else (if nat_le (rank_by_resident lists q) (rank_by_resident lists p) then capacity_of lists (pair_at lists p).hospital else 0)

-- the coefficient of pair q in the row of pair p, for a pair q of the hospital of p; 0 where both have one resident
abbrev pub hospital_share : Lists → ℕ → ℕ → ℕ
hospital_share lists p q =
    if (pair_at lists q).resident == (pair_at lists p).resident then 0
    else (if nat_le (rank_by_hospital lists q) (rank_by_hospital lists p) then 1 else 0)

-- a term for each of these pairs, with the coefficient that f gives it
abbrev pub counted_terms : (ℕ → ℕ) → List ℕ → List Term
counted_terms f ps = map (λ q. term (pos (f q)) q) ps

-- What a model keeps beside its instance: its rows, which are short, the numbers of the rows of residents and of hospitals, and how
-- many rows stand before those of pairs.
pub record IsModelOf (lists : Lists) (made : List PlainRow) (resident_numbers hospital_numbers : List (Option ℕ)) (before_pairs : ℕ) : Type 0 where
  pub rows_are : made ≡ rows lists
  pub residents_are : resident_numbers ≡ map (resident_row_no lists) (below (length lists.residents))
  pub hospitals_are : hospital_numbers ≡ map (hospital_row_no lists) (below (length lists.hospitals))
  pub before_is : before_pairs ≡ length (resident_rows lists) + length (hospital_rows lists)
  pub few : length made ≤ 140000
  pub short : AreShortRows (pair_count lists) made
