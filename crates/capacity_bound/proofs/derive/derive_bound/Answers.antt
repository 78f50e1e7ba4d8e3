use Rattle.std.proofs.Common.{List, ◌∙◌, sym, subst, arith}
use Rattle.proof_lines.specs.declared.line.PolStep.{PolStep}
use Rattle.derivation.proofs.InOrder.{end_above}
use Rattle.capacity_bound.specs.Steps.{AddsRows}
use Rattle.capacity_bound.proofs.BoundDerived.{has_bound, lawful, line_makes, line_writable, note_made, note_short, on_err, operands_some, ready_again, row_there, stops_early}
use Rattle.capacity_bound.proofs.derive.derive_bound.Goals as goal

pub steps_adding-requires : goal.steps_adding-requires
steps_adding-requires c =
    operands_some c.args.inst.now c.args.gone.now c.args.deriv.now c.requires.derivation c.requires.ready c.next-next.ensures.in_order c.requires.next c.requires.units (omega (arith, c.pairs.ensures.count, c.pairs.ensures.few)) c.in_ok-operands.ensures.well_formed
    (omega (arith, c.pairs.ensures.count, c.if-pairs-eq0.false)) c.deref.result.now (c.deref.ensures.value ∙ c.in_ok-operands.ensures.are)

pub pol_that_fits-requires-clause-writable : goal.pol_that_fits-requires-clause-writable
pol_that_fits-requires-clause-writable c =
    line_writable c.args.inst.now c.args.gone.now c.args.deriv.now c.requires.derivation c.requires.ready c.next-next.ensures.in_order c.requires.next c.requires.units (omega (arith, c.pairs.ensures.count, c.pairs.ensures.few)) c.in_ok-operands.ensures.well_formed
    (omega (arith, c.pairs.ensures.count, c.if-pairs-eq0.false)) c.deref.result.now c.deref-2.result.now (c.deref.ensures.value ∙ c.in_ok-operands.ensures.are) (subst (λ (s : List PolStep). AddsRows c.deref.result.now s) (sym c.deref-2.ensures.value) c.in_ok-steps.ensures)

pub pol_that_fits-requires-clause-made : goal.pol_that_fits-requires-clause-made
pol_that_fits-requires-clause-made c =
    line_makes c.args.inst.now c.args.gone.now c.args.deriv.now c.requires.derivation c.requires.ready c.next-next.ensures.in_order c.requires.next c.requires.units (omega (arith, c.pairs.ensures.count, c.pairs.ensures.few)) c.in_ok-operands.ensures.well_formed
    (omega (arith, c.pairs.ensures.count, c.if-pairs-eq0.false)) c.deref.result.now c.deref-2.result.now (c.deref.ensures.value ∙ c.in_ok-operands.ensures.are) (subst (λ (s : List PolStep). AddsRows c.deref.result.now s) (sym c.deref-2.ensures.value) c.in_ok-steps.ensures)

pub note-requires-clause-made : goal.note-requires-clause-made
note-requires-clause-made c = note_made c.in_ok-id.id.0 c.args.deriv.now.state.next c.in_ok-id.ensures.id (end_above 1 c.args.deriv.now.state.next c.args.deriv.now.state.live c.next-next.ensures.in_order) c.requires.next

pub note-requires-clause-short : goal.note-requires-clause-short
note-requires-clause-short c = note_short c.in_ok-id.id.0 (omega (arith, c.in_ok-id.ensures.id, c.requires.next))

pub returns-in_err-note-clause-early : goal.returns-in_err-note-clause-early
returns-in_err-note-clause-early c =
    on_err c.from_residual-in_err-note.result
    (stops_early c.args.inst.now c.args.gone.now c.args.deriv.now c.requires.derivation c.requires.ready c.next-next.ensures.in_order c.requires.next c.requires.units (omega (arith, c.pairs.ensures.count, c.pairs.ensures.few)) c.in_ok-operands.ensures.well_formed
    (omega (arith, c.pairs.ensures.count, c.if-pairs-eq0.false)) c.deref.result.now c.deref-2.result.now (c.deref.ensures.value ∙ c.in_ok-operands.ensures.are) (subst (λ (s : List PolStep). AddsRows c.deref.result.now s) (sym c.deref-2.ensures.value) c.in_ok-steps.ensures) c.pol_that_fits.new.self c.in_ok-id.ensures.step c.note.new.self c.in_err-note.ensures.note)

pub returns-clause-bound : goal.returns-clause-bound
returns-clause-bound c =
    has_bound c.args.inst.now c.args.gone.now c.args.deriv.now c.requires.derivation c.requires.ready c.next-next.ensures.in_order c.requires.next c.requires.units (omega (arith, c.pairs.ensures.count, c.pairs.ensures.few)) c.in_ok-operands.ensures.well_formed
    (omega (arith, c.pairs.ensures.count, c.if-pairs-eq0.false)) c.deref.result.now c.deref-2.result.now (c.deref.ensures.value ∙ c.in_ok-operands.ensures.are) (subst (λ (s : List PolStep). AddsRows c.deref.result.now s) (sym c.deref-2.ensures.value) c.in_ok-steps.ensures) c.pol_that_fits.new.self c.in_ok-id.ensures.step c.in_ok-id.id c.note.new.self c.in_ok-id.ensures.id c.in_ok-note.ensures.note

pub returns-clause-row : goal.returns-clause-row
returns-clause-row c =
    row_there c.args.inst.now c.args.gone.now c.args.deriv.now c.requires.derivation c.requires.ready c.next-next.ensures.in_order c.requires.next c.requires.units (omega (arith, c.pairs.ensures.count, c.pairs.ensures.few)) c.in_ok-operands.ensures.well_formed
    (omega (arith, c.pairs.ensures.count, c.if-pairs-eq0.false)) c.deref.result.now c.deref-2.result.now (c.deref.ensures.value ∙ c.in_ok-operands.ensures.are) (subst (λ (s : List PolStep). AddsRows c.deref.result.now s) (sym c.deref-2.ensures.value) c.in_ok-steps.ensures) c.pol_that_fits.new.self c.in_ok-id.ensures.step c.in_ok-id.id c.note.new.self c.in_ok-id.ensures.id c.in_ok-note.ensures.note

pub returns-clause-ready : goal.returns-clause-ready
returns-clause-ready c =
    ready_again c.args.inst.now c.args.gone.now c.args.deriv.now c.requires.derivation c.requires.ready c.next-next.ensures.in_order c.requires.next c.requires.units (omega (arith, c.pairs.ensures.count, c.pairs.ensures.few)) c.in_ok-operands.ensures.well_formed
    (omega (arith, c.pairs.ensures.count, c.if-pairs-eq0.false)) c.deref.result.now c.deref-2.result.now (c.deref.ensures.value ∙ c.in_ok-operands.ensures.are) (subst (λ (s : List PolStep). AddsRows c.deref.result.now s) (sym c.deref-2.ensures.value) c.in_ok-steps.ensures) c.pol_that_fits.new.self c.in_ok-id.ensures.step c.in_ok-id.id c.note.new.self c.in_ok-id.ensures.id c.in_ok-note.ensures.note

pub returns-clause-lawful : goal.returns-clause-lawful
returns-clause-lawful c =
    lawful c.args.inst.now c.args.gone.now c.args.deriv.now c.requires.derivation c.requires.ready c.next-next.ensures.in_order c.requires.next c.requires.units (omega (arith, c.pairs.ensures.count, c.pairs.ensures.few)) c.in_ok-operands.ensures.well_formed
    (omega (arith, c.pairs.ensures.count, c.if-pairs-eq0.false)) c.deref.result.now c.deref-2.result.now (c.deref.ensures.value ∙ c.in_ok-operands.ensures.are) (subst (λ (s : List PolStep). AddsRows c.deref.result.now s) (sym c.deref-2.ensures.value) c.in_ok-steps.ensures) c.pol_that_fits.new.self c.in_ok-id.ensures.step c.in_ok-id.id c.note.new.self c.in_ok-id.ensures.id c.in_ok-note.ensures.note
    (note_made c.in_ok-id.id.0 c.args.deriv.now.state.next c.in_ok-id.ensures.id (end_above 1 c.args.deriv.now.state.next c.args.deriv.now.state.live c.next-next.ensures.in_order) c.requires.next) (note_short c.in_ok-id.id.0 (omega (arith, c.in_ok-id.ensures.id, c.requires.next)))
