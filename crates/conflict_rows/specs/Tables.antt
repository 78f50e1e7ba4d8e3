-- A table of marks is that of a trail.
use Rattle.std.specs.Prelude.{◌≡◌, ℕ, List, ◌++◌, length, Some}
use Rattle.hrt_base.specs.declared.literal.Lit.{Lit}
use Rattle.pb_rows.specs.Terms.{PlainRow}
use Rattle.conflict_rows.specs.declared.marks.Mark.{Mark}
use Rattle.conflict_rows.specs.declared.cutting.Cut.{Cut}
use Rattle.conflict_rows.specs.declared.cutting.Cut.TheVariants.{Next, Passed}
use Rattle.conflict_rows.specs.Trail.{Placed, at_level, on, up_to}
use Rattle.conflict_rows.specs.CutRows as rows
use Rattle.conflict_rows.specs.CutRows.{Cutting, cut_by, judged}
use Rattle.conflict_rows.specs.ClauseRows.{conflict_clause, is_nonfalse, is_other, reason_clause}
use Rattle.conflict_rows.specs.Cuts.{CutsTo}
use Rattle.conflict_rows.specs.Steps.{IsClauseOf}
use Rattle.conflict_rows.specs.Marks.{set_before, set_now, set_of_level, set_up_to}

-- it makes true what the trail does, at once, at the first places, up to each level, and at each level
pub record AreMarks (marks : List Mark) (whole : List Placed) : Type 0 where
  pub now : (l : Lit) → set_now marks l ≡ on whole l
  pub before : (newer rest : List Placed) → newer ++ rest ≡ whole → (l : Lit) → set_before marks (length rest) l ≡ on rest l
  pub levels : (k : ℕ) (l : Lit) → set_up_to marks k l ≡ on (up_to k whole) l
  pub of_level : (k : ℕ) (l : Lit) → set_of_level marks k l ≡ on (at_level k whole) l

-- where the sequence stands after a cut
abbrev pub after_cut : List Placed → Cut → Cutting
after_cut whole (Next row vars divisor factor) = judged whole row
after_cut whole (Passed number) = rows.Passed number

-- what the code of a cut comes to is the step of the sequence
abbrev pub CutsAreSteps : Type 0
CutsAreSteps =
    (marks : List Mark) (newer rest whole : List Placed) (t : Lit) (r c : PlainRow) (cut : Cut) → AreMarks marks whole → newer ++ rest ≡ whole →
    CutsTo (set_now marks) (set_before marks (length rest)) t r c cut → cut_by whole rest t (Some r) c ≡ after_cut whole cut

-- the clauses that the code makes of a falsified row and of a reason are those of the sequence
abbrev pub ClausesAreSteps : Type 0
ClausesAreSteps =
    (marks : List Mark) (newer rest whole : List Placed) (t : Lit) (r clause : PlainRow) (names : List ℕ) (divisor : ℕ) → AreMarks marks whole → newer ++ rest ≡ whole →
    (IsClauseOf (is_nonfalse (set_now marks)) r clause names divisor → clause ≡ conflict_clause whole r) ×
    (IsClauseOf (is_other (set_before marks (length rest)) t) r clause names divisor → clause ≡ reason_clause rest t r)
