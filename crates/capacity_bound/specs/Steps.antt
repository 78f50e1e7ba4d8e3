-- The steps of the line that makes the bound row.
use Rattle.std.specs.Prelude.{◌≡◌, ◌++◌, ℕ, true, not, nat_le, nat_lt, if◌then◌else◌, List, [], ◌∷◌, length, map, flat_map, count_by, Option, Some, None}
use Rattle.std.specs.List.{list_any}
use Rattle.hrt_base.specs.declared.numbered.RowNo.{RowNo}
use Rattle.rank_tables.specs.Numbers.{below}
use Rattle.rank_tables.specs.Instance.{Lists, capacity_of, pairs_as_listed, rising_pairs_of_hospital, pairs_of_resident}
use Rattle.stability_model.specs.Model.{hospital_row_no, resident_row_no}
use Rattle.stability_model.specs.Gone.{posts_left, residents_left}
use Rattle.proof_lines.specs.declared.line.PolStep.{PolStep}
use Rattle.proof_lines.specs.declared.line.PolStep.TheVariants.{Id, Axiom, Add}
use Rattle.proof_lines.specs.Spelling.{row_no}
use Rattle.derivation.specs.Deletions.{Deletions, is_deleted, unit_row_no}

-- ---- operands: each names a row that is added

-- the row of this number or, where there is none, `~x >= 0` of the pair
abbrev pub unit_or_axiom : ℕ → Option RowNo → PolStep
unit_or_axiom p None = Axiom (record { var = p; neg = true })
unit_or_axiom p (Some id) = Id id

-- the row `~x >= 1` of a deleted pair, and `~x >= 0` for another one
abbrev pub pair_operand : Deletions → ℕ → PolStep
pair_operand map p = unit_or_axiom p (unit_row_no map p)

-- a row of the model
abbrev pub row_operand : Option ℕ → List PolStep
row_operand None = []
row_operand (Some k) = Id (row_no k) ∷ []

-- a resident with a pair that is left gives its row, another the rows of its pairs
abbrev pub resident_operands : Lists → Deletions → ℕ → List PolStep
resident_operands lists deletions r =
    if list_any (λ p. not (is_deleted deletions p)) (pairs_of_resident lists r) then row_operand (resident_row_no lists r)
    else map (pair_operand deletions) (pairs_of_resident lists r)

-- a hospital with more pairs left than posts gives its row, another the rows of its pairs
abbrev pub hospital_operands : Lists → Deletions → ℕ → List PolStep
hospital_operands lists deletions h =
    if nat_lt (capacity_of lists h) (count_by (λ p. not (is_deleted deletions p)) (rising_pairs_of_hospital lists h)) then row_operand (hospital_row_no lists h)
    else map (pair_operand deletions) (pairs_as_listed lists h)

-- by residents where they are no more than the posts, else by hospitals
abbrev pub bound_operands : Lists → Deletions → List PolStep
bound_operands lists deletions =
    if nat_le (residents_left lists (is_deleted deletions)) (posts_left lists (is_deleted deletions))
    then flat_map (resident_operands lists deletions) (below (length lists.residents))
    else flat_map (hospital_operands lists deletions) (below (length lists.hospitals))

-- ---- their sum

-- A row that a step names, or the sum of two sums.
pub data Sum : Type 0 where
  Row : PolStep → Sum
  Both : Sum → Sum → Sum

-- the steps that make a sum
abbrev pub steps_of : Sum → List PolStep
steps_of (Row operand) = operand ∷ []
steps_of (Both first second) = steps_of first ++ (steps_of second ++ Add ∷ [])

-- the steps that name the rows of a sum, in their order
abbrev pub operands_of : Sum → List PolStep
operands_of (Row operand) = operand ∷ []
operands_of (Both first second) = operands_of first ++ operands_of second

-- the steps add the rows of these operands, in their order and two at a time
pub record AddsRows (operands steps : List PolStep) : Type 0 where
  pub sum : Sum
  pub operands_are : operands ≡ operands_of sum
  pub steps_are : steps ≡ steps_of sum

-- such steps are put behind others
pub record PutsSum (operands before after : List PolStep) : Type 0 where
  pub steps : List PolStep
  pub adds : AddsRows operands steps
  pub is : after ≡ before ++ steps
