-- What a resident that has nothing else takes: where its hospital takes a pair that it ranks lower, it takes this one.
use Rattle.std.specs.Prelude.{ℕ, Bool, not, ◌&&◌, ◌==◌, nat_lt, nat_le, if◌then◌else◌, List, [], ◌∷◌, ◌++◌, map, flat_map, ℤ, pos, neg_ℤ, Option, Some, None}
use Rattle.hrt_base.specs.declared.numbered.RowNo.{RowNo}
use Rattle.pb_rows.specs.Terms.{PlainRow}
use Rattle.pb_rows.specs.Rows.{in_normal_form}
use Rattle.rank_tables.specs.Numbers.{numbers_to}
use Rattle.rank_tables.specs.Instance.{Lists, capacity_of, pair_at, pair_count, pairs_of_resident, rank_by_hospital, rank_by_resident}
use Rattle.stability_model.specs.Model.{hospital_row_no, pair_row_no, term}
use Rattle.proof_lines.specs.declared.line.PolStep.{PolStep}
use Rattle.proof_lines.specs.declared.line.PolStep.TheVariants.{Id, Times, Add}
use Rattle.proof_lines.specs.Spelling.{row_no}
use Rattle.derivation.specs.Deletions.{Deletions, unit_row_no}

-- pair v is of the same hospital as pair q, which ranks it strictly lower
abbrev pub is_lower : Lists → ℕ → ℕ → Bool
is_lower lists q v = (pair_at lists v).hospital == (pair_at lists q).hospital && nat_lt (rank_by_hospital lists q) (rank_by_hospital lists v)

-- the posts for q itself, and minus one for a pair that is ranked lower
abbrev pub offer_coef : Lists → ℕ → ℕ → ℤ
offer_coef lists q v =
    if v == q then pos (capacity_of lists (pair_at lists q).hospital)
    else (if is_lower lists q v then neg_ℤ (pos 1) else pos 0)

-- the posts times q are at least the number of lower pairs that are taken
abbrev pub offer_row : Lists → ℕ → PlainRow
offer_row lists q = in_normal_form (record { terms = map (λ v. term (offer_coef lists q v) v) (numbers_to (pair_count lists)); at_least = pos 0 })

-- ---- the line that makes the row

-- whether o is another pair than q, ranked by its resident at least as high as q by its own
abbrev pub is_before : Lists → ℕ → ℕ → Bool
is_before lists q o = not (o == q) && nat_le (rank_by_resident lists o) (rank_by_resident lists q)

-- the posts times the unit row of a pair is added, if it has one
abbrev pub unit_steps : ℕ → Option RowNo → List PolStep
unit_steps c None = []
unit_steps c (Some id) = Id id ∷ Times (pos c) ∷ Add ∷ []

-- the posts times the unit row of a pair o that comes before q is added, if it has one
abbrev pub before_steps : Lists → Deletions → ℕ → ℕ → List PolStep
before_steps lists deletions q o = if is_before lists q o then unit_steps (capacity_of lists (pair_at lists q).hospital) (unit_row_no deletions o) else []

-- the row of the model with this number is added, if there is one
abbrev pub row_steps : Option ℕ → List PolStep
row_steps None = []
row_steps (Some k) = Id (row_no k) ∷ Add ∷ []

-- the row of the pair, the unit rows of what its resident ranks as high, and the row of its hospital
abbrev pub offer_steps : Lists → Deletions → ℕ → List PolStep
offer_steps lists deletions q =
    Id (row_no (pair_row_no lists q)) ∷ (flat_map (before_steps lists deletions q) (pairs_of_resident lists (pair_at lists q).resident) ++ row_steps (hospital_row_no lists (pair_at lists q).hospital))
