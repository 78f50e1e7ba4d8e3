-- The code of a step takes the step of its sequence.
use Rattle.std.proofs.Common.{◌≡◌, ◌∙◌, ℕ, List, length, sym, ap, subst}
use Rattle.std.specs.Prelude.{Option, Some}
use Rattle.hrt_base.specs.declared.literal.Lit.{Lit}
use Rattle.pb_rows.specs.Terms.{PlainRow}
use Rattle.pb_rows.specs.Rows.{add}
use Rattle.pb_rows.specs.Closure.{Literals}
use Rattle.conflict_rows.specs.declared.cutting.Cut.{Cut}
use Rattle.conflict_rows.specs.declared.cutting.Cut.TheVariants.{Next, Passed}
use Rattle.conflict_rows.specs.Trail.{Placed, on}
use Rattle.conflict_rows.specs.CutRows.{cut_by, judged, product, unless_passed}
use Rattle.conflict_rows.specs.ClauseRows.{as_clause, is_nonfalse, is_other}
use Rattle.conflict_rows.specs.Weakening.{weakened}
use Rattle.conflict_rows.specs.Cuts.{CutsTo}
use Rattle.conflict_rows.specs.Marks.{set_before, set_now}
use Rattle.conflict_rows.specs.Tables.{ClausesAreSteps, CutsAreSteps, after_cut}

step_by : (whole rest : List Placed) (t : Lit) (r c : PlainRow) (cut : Cut) → CutsTo (on whole) (on rest) t r c cut → cut_by whole rest t (Some r) c ≡ after_cut whole cut
step_by whole rest t r c (Next row vars divisor factor) h =
    let p : PlainRow = product whole rest t r c in
    ap (λ (o : Option ℕ). unless_passed o (judged whole (add c p))) h.within ∙ ap (judged whole) (sym h.row)
step_by whole rest t r c (Passed number) h =
    let p : PlainRow = product whole rest t r c in
    ap (λ (o : Option ℕ). unless_passed o (judged whole (add c p))) h

pub cuts_are_steps : CutsAreSteps
cuts_are_steps marks newer rest whole t r c cut m e h =
    let now : ◌≡◌ {A = Literals} (set_now marks) (on whole) = λ i l. m.now l i in
    let before : ◌≡◌ {A = Literals} (set_before marks (length rest)) (on rest) = λ i l. m.before newer rest e l i in
    step_by whole rest t r c cut
    (subst (λ (b : Literals). CutsTo (on whole) b t r c cut) before (subst (λ (n : Literals). CutsTo n (set_before marks (length rest)) t r c cut) now h))

pub clauses_are_steps : ClausesAreSteps
clauses_are_steps marks newer rest whole t r clause names divisor m e =
    let now : ◌≡◌ {A = Literals} (set_now marks) (on whole) = λ i l. m.now l i in
    let before : ◌≡◌ {A = Literals} (set_before marks (length rest)) (on rest) = λ i l. m.before newer rest e l i in (
      (λ h. h.row ∙ ap (λ (set : Literals). as_clause (weakened (is_nonfalse set) r)) now),
      (λ h. h.row ∙ ap (λ (set : Literals). as_clause (weakened (is_other set t) r)) before),
    )
