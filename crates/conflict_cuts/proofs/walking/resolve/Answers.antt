use Rattle.std.proofs.Common.{List, ℕ, ◌∙◌, ap, length, subst, sym}
use Rattle.pb_rows.specs.Terms.{PlainRow}
use Rattle.propagation.specs.Following.{IsOver}
use Rattle.conflict_rows.specs.ClauseRows.{is_other}
use Rattle.conflict_rows.specs.Marks.{set_before}
use Rattle.conflict_rows.specs.Steps.{IsClauseOf}
use Rattle.conflict_rows.specs.Trail.{PropagatesLiteral}
use Rattle.conflict_cuts.specs.Lines.{resolve_steps}
use Rattle.conflict_cuts.proofs.Agreeing.{tag_is}
use Rattle.conflict_cuts.proofs.ClauseLines.{clause_is_short, divisor_small, propagates_before, reason_is_short, resolve_is_row, resolve_known, resolve_made, resolve_writable, row_covered}
use Rattle.conflict_cuts.proofs.walking.resolve.Goals as goal

pub reason_clause-requires-clause-covered : goal.reason_clause-requires-clause-covered
reason_clause-requires-clause-covered c = subst (IsOver (length c.args.marks.now)) (sym c.in_ok-held.ensures) (row_covered c.args.engine.now c.args.marks.now c.args.deriv.now c.requires.set c.requires.next c.args.reason.0 c.requires.reason.held)

pub reason_clause-requires-clause-propagates : goal.reason_clause-requires-clause-propagates
reason_clause-requires-clause-propagates c = subst (λ (r : PlainRow). PropagatesLiteral (set_before c.args.marks.now c.args.k) r c.args.lit) (sym c.in_ok-held.ensures) (propagates_before c.args.engine.now c.args.marks.now c.args.deriv.now c.requires.set c.requires.next c.args.k c.args.lit c.args.reason.0 c.args.made.now.row c.requires.reason)

pub resolvent-requires-clause-clause : goal.resolvent-requires-clause-clause
resolvent-requires-clause-clause c = clause_is_short c.args.engine.now c.args.marks.now c.args.deriv.now c.requires.set c.requires.next c.args.k c.args.lit c.args.reason.0 c.args.made.now.row c.requires.reason

pub resolvent-requires-clause-reason : goal.resolvent-requires-clause-reason
resolvent-requires-clause-reason c = reason_is_short c.args.engine.now c.args.marks.now c.args.deriv.now c.requires.set c.requires.next c.args.k c.args.lit c.args.reason.0 c.args.made.now.row c.requires.reason c.in_ok-row.field-0.row c.in_ok-row.field-0.vars.items c.in_ok-row.field-0.divisor
    (subst (λ (r : PlainRow). IsClauseOf (is_other (set_before c.args.marks.now c.args.k) c.args.lit) r c.in_ok-row.field-0.row c.in_ok-row.field-0.vars.items c.in_ok-row.field-0.divisor) c.in_ok-held.ensures c.in_ok-row.ensures)

pub resolve_steps-requires : goal.resolve_steps-requires
resolve_steps-requires c = divisor_small c.args.engine.now c.args.marks.now c.args.deriv.now c.requires.set c.requires.next c.args.reason.0 c.requires.reason.held (is_other (set_before c.args.marks.now c.args.k) c.args.lit) c.in_ok-row.field-0.row c.in_ok-row.field-0.vars.items c.in_ok-row.field-0.divisor
    (subst (λ (r : PlainRow). IsClauseOf (is_other (set_before c.args.marks.now c.args.k) c.args.lit) r c.in_ok-row.field-0.row c.in_ok-row.field-0.vars.items c.in_ok-row.field-0.divisor) c.in_ok-held.ensures c.in_ok-row.ensures)

pub make-requires-clause-writable : goal.make-requires-clause-writable
make-requires-clause-writable c = resolve_writable c.args.engine.now c.args.marks.now c.args.deriv.now c.requires.set c.requires.next c.args.k c.args.lit c.args.reason.0 c.args.made.now.row c.requires.reason c.in_ok-row.field-0.row c.in_ok-row.field-0.vars.items c.in_ok-row.field-0.divisor
    (subst (λ (r : PlainRow). IsClauseOf (is_other (set_before c.args.marks.now c.args.k) c.args.lit) r c.in_ok-row.field-0.row c.in_ok-row.field-0.vars.items c.in_ok-row.field-0.divisor) c.in_ok-held.ensures c.in_ok-row.ensures)
    c.args.made.now.id c.tag-tag.result c.requires.live (tag_is c.args.engine.now c.arena.result.now c.args.reason.0 c.tag-tag.result.0 c.arena.ensures c.tag-tag.ensures)
    c.deref-2.result.now (c.deref-2.ensures.value ∙ (c.in_ok-steps.ensures ∙ ap (λ (ns : List ℕ). resolve_steps c.args.made.now.id c.tag-tag.result ns c.in_ok-row.field-0.divisor) c.deref.ensures.value))

pub make-requires-clause-made : goal.make-requires-clause-made
make-requires-clause-made c = resolve_made c.args.engine.now c.args.marks.now c.args.deriv.now c.requires.set c.requires.next c.args.k c.args.lit c.args.reason.0 c.args.made.now.row c.requires.reason c.in_ok-row.field-0.row c.in_ok-row.field-0.vars.items c.in_ok-row.field-0.divisor
    (subst (λ (r : PlainRow). IsClauseOf (is_other (set_before c.args.marks.now c.args.k) c.args.lit) r c.in_ok-row.field-0.row c.in_ok-row.field-0.vars.items c.in_ok-row.field-0.divisor) c.in_ok-held.ensures c.in_ok-row.ensures)
    c.args.made.now.id c.tag-tag.result c.requires.live (tag_is c.args.engine.now c.arena.result.now c.args.reason.0 c.tag-tag.result.0 c.arena.ensures c.tag-tag.ensures)
    c.deref-2.result.now (c.deref-2.ensures.value ∙ (c.in_ok-steps.ensures ∙ ap (λ (ns : List ℕ). resolve_steps c.args.made.now.id c.tag-tag.result ns c.in_ok-row.field-0.divisor) c.deref.ensures.value))
    c.in_ok-next.next c.in_ok-next.ensures

pub returns-clause-made : goal.returns-clause-made
returns-clause-made c = λ first low. c.in_ok-next-2.ensures.made first
    (resolve_known c.args.engine.now c.args.marks.now c.args.deriv.now c.requires.set c.requires.next c.args.k c.args.lit c.args.reason.0 c.args.made.now.row c.requires.reason c.in_ok-row.field-0.row c.in_ok-row.field-0.vars.items c.in_ok-row.field-0.divisor
    (subst (λ (r : PlainRow). IsClauseOf (is_other (set_before c.args.marks.now c.args.k) c.args.lit) r c.in_ok-row.field-0.row c.in_ok-row.field-0.vars.items c.in_ok-row.field-0.divisor) c.in_ok-held.ensures c.in_ok-row.ensures)
    c.args.made.now.id c.tag-tag.result c.requires.live (tag_is c.args.engine.now c.arena.result.now c.args.reason.0 c.tag-tag.result.0 c.arena.ensures c.tag-tag.ensures)
    c.deref-2.result.now (c.deref-2.ensures.value ∙ (c.in_ok-steps.ensures ∙ ap (λ (ns : List ℕ). resolve_steps c.args.made.now.id c.tag-tag.result ns c.in_ok-row.field-0.divisor) c.deref.ensures.value)) first low)

pub returns-clause-row : goal.returns-clause-row
returns-clause-row c = c.in_ok-next-2.ensures.row ∙ resolve_is_row c.args.engine.now c.args.marks.now c.args.deriv.now c.requires.set c.requires.next c.args.k c.args.lit c.args.reason.0 c.args.made.now.row c.requires.reason c.in_ok-row.field-0.row c.in_ok-row.field-0.vars.items c.in_ok-row.field-0.divisor
    (subst (λ (r : PlainRow). IsClauseOf (is_other (set_before c.args.marks.now c.args.k) c.args.lit) r c.in_ok-row.field-0.row c.in_ok-row.field-0.vars.items c.in_ok-row.field-0.divisor) c.in_ok-held.ensures c.in_ok-row.ensures)
    c.in_ok-next.next c.in_ok-next.ensures
