use Rattle.std.proofs.Common.{List, ℕ, ◌∙◌, ap, subst, sym}
use Rattle.pb_rows.specs.Terms.{PlainRow}
use Rattle.pb_rows.specs.Closure.{Falsified}
use Rattle.propagation.specs.Following.{IsOver}
use Rattle.std.proofs.Common.{length}
use Rattle.conflict_rows.specs.ClauseRows.{is_nonfalse}
use Rattle.conflict_rows.specs.Marks.{set_now}
use Rattle.conflict_rows.specs.Steps.{IsClauseOf}
use Rattle.conflict_cuts.specs.Lines.{conflict_steps}
use Rattle.conflict_cuts.proofs.Agreeing.{tag_is}
use Rattle.conflict_cuts.proofs.ClauseLines.{conflict_is_row, conflict_known, conflict_made, conflict_writable, divisor_small, falsified_now, row_covered}
use Rattle.conflict_cuts.proofs.walking.first_clause.Goals as goal

pub conflict_clause-requires-clause-covered : goal.conflict_clause-requires-clause-covered
conflict_clause-requires-clause-covered c = subst (IsOver (length c.args.marks.now)) (sym c.in_ok-held.ensures) (row_covered c.args.engine.now c.args.marks.now c.args.deriv.now c.requires.set c.requires.next c.args.conflict.0 c.requires.held)

pub conflict_clause-requires-clause-falsified : goal.conflict_clause-requires-clause-falsified
conflict_clause-requires-clause-falsified c = subst (Falsified (set_now c.args.marks.now)) (sym c.in_ok-held.ensures) (falsified_now c.args.engine.now c.args.marks.now c.args.deriv.now c.requires.set c.requires.next c.args.conflict.0 c.requires.held c.requires.falsified)

pub conflict_steps-requires : goal.conflict_steps-requires
conflict_steps-requires c = divisor_small c.args.engine.now c.args.marks.now c.args.deriv.now c.requires.set c.requires.next c.args.conflict.0 c.requires.held (is_nonfalse (set_now c.args.marks.now)) c.in_ok-row.field-0.row c.in_ok-row.field-0.vars.items c.in_ok-row.field-0.divisor
    (subst (λ (r : PlainRow). IsClauseOf (is_nonfalse (set_now c.args.marks.now)) r c.in_ok-row.field-0.row c.in_ok-row.field-0.vars.items c.in_ok-row.field-0.divisor) c.in_ok-held.ensures c.in_ok-row.ensures)

pub make-requires-clause-writable : goal.make-requires-clause-writable
make-requires-clause-writable c = conflict_writable c.args.engine.now c.args.marks.now c.args.deriv.now c.requires.set c.requires.next c.args.conflict.0 c.requires.held c.requires.falsified c.in_ok-row.field-0.row c.in_ok-row.field-0.vars.items c.in_ok-row.field-0.divisor
    (subst (λ (r : PlainRow). IsClauseOf (is_nonfalse (set_now c.args.marks.now)) r c.in_ok-row.field-0.row c.in_ok-row.field-0.vars.items c.in_ok-row.field-0.divisor) c.in_ok-held.ensures c.in_ok-row.ensures)
    c.tag-tag.result (tag_is c.args.engine.now c.arena.result.now c.args.conflict.0 c.tag-tag.result.0 c.arena.ensures c.tag-tag.ensures)
    c.deref-2.result.now (c.deref-2.ensures.value ∙ (c.in_ok-steps.ensures ∙ ap (λ (ns : List ℕ). conflict_steps c.tag-tag.result ns c.in_ok-row.field-0.divisor) c.deref.ensures.value))

pub make-requires-clause-made : goal.make-requires-clause-made
make-requires-clause-made c = conflict_made c.args.engine.now c.args.marks.now c.args.deriv.now c.requires.set c.requires.next c.args.conflict.0 c.requires.held c.requires.falsified c.in_ok-row.field-0.row c.in_ok-row.field-0.vars.items c.in_ok-row.field-0.divisor
    (subst (λ (r : PlainRow). IsClauseOf (is_nonfalse (set_now c.args.marks.now)) r c.in_ok-row.field-0.row c.in_ok-row.field-0.vars.items c.in_ok-row.field-0.divisor) c.in_ok-held.ensures c.in_ok-row.ensures)
    c.tag-tag.result (tag_is c.args.engine.now c.arena.result.now c.args.conflict.0 c.tag-tag.result.0 c.arena.ensures c.tag-tag.ensures)
    c.deref-2.result.now (c.deref-2.ensures.value ∙ (c.in_ok-steps.ensures ∙ ap (λ (ns : List ℕ). conflict_steps c.tag-tag.result ns c.in_ok-row.field-0.divisor) c.deref.ensures.value))

pub returns-clause-made : goal.returns-clause-made
returns-clause-made c = λ first. c.in_ok-made.ensures.made first
    (conflict_known c.args.engine.now c.args.marks.now c.args.deriv.now c.requires.set c.requires.next c.args.conflict.0 c.requires.held c.requires.falsified c.in_ok-row.field-0.row c.in_ok-row.field-0.vars.items c.in_ok-row.field-0.divisor
    (subst (λ (r : PlainRow). IsClauseOf (is_nonfalse (set_now c.args.marks.now)) r c.in_ok-row.field-0.row c.in_ok-row.field-0.vars.items c.in_ok-row.field-0.divisor) c.in_ok-held.ensures c.in_ok-row.ensures)
    c.tag-tag.result (tag_is c.args.engine.now c.arena.result.now c.args.conflict.0 c.tag-tag.result.0 c.arena.ensures c.tag-tag.ensures) first
    c.deref-2.result.now (c.deref-2.ensures.value ∙ (c.in_ok-steps.ensures ∙ ap (λ (ns : List ℕ). conflict_steps c.tag-tag.result ns c.in_ok-row.field-0.divisor) c.deref.ensures.value)))

pub returns-clause-row : goal.returns-clause-row
returns-clause-row c = c.in_ok-made.ensures.row ∙ conflict_is_row c.args.engine.now c.args.marks.now c.args.deriv.now c.requires.set c.requires.next c.args.conflict.0 c.requires.held c.requires.falsified c.in_ok-row.field-0.row c.in_ok-row.field-0.vars.items c.in_ok-row.field-0.divisor
    (subst (λ (r : PlainRow). IsClauseOf (is_nonfalse (set_now c.args.marks.now)) r c.in_ok-row.field-0.row c.in_ok-row.field-0.vars.items c.in_ok-row.field-0.divisor) c.in_ok-held.ensures c.in_ok-row.ensures)
    c.tag-tag.result (tag_is c.args.engine.now c.arena.result.now c.args.conflict.0 c.tag-tag.result.0 c.arena.ensures c.tag-tag.ensures)
