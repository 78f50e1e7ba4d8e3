use Rattle.std.proofs.Common.{ap}
use Rattle.derivation.proofs.Readiness.{row_numbered}
use Rattle.pb_propagate.specs.Engines.{EngineState}
use Rattle.std.proofs.Common.{arith}
use Rattle.analysis_tests.proofs.Holding.{held_system, note_made, note_short}
use Rattle.analysis_tests.proofs.systems.hold.Goals as goal

pub note-requires-clause-so : goal.note-requires-clause-so
note-requires-clause-so c = row_numbered c.args.id.0 c.args.row.now c.args.deriv.now.state.live c.requires.live

pub note-requires-clause-made : goal.note-requires-clause-made
note-requires-clause-made c = note_made c.args.id c.args.deriv.now.state.next c.args.row.now c.args.deriv.now.state.live c.next.ensures.in_order (omega (arith, c.if-next-gt1000000.false, c.next.ensures.number)) c.requires.live

pub note-requires-clause-short : goal.note-requires-clause-short
note-requires-clause-short c = note_short c.args.id c.args.deriv.now.state.next c.args.row.now c.args.deriv.now.state.live c.next.ensures.in_order (omega (arith, c.if-next-gt1000000.false, c.next.ensures.number)) c.requires.live

pub returns-clause-system : goal.returns-clause-system
returns-clause-system c =
    held_system c.args.model.now c.args.engine.now c.add_row.new.self c.args.deriv.now c.note.new.self c.in_ok-add_row.field-0.0 c.args.id c.args.row.now c.requires.system c.in_ok-note.ensures.note (c.in_ok-note.ensures.ready c.requires.system.ready) c.requires.new c.requires.live c.terms-terms.ensures.normal
    (ap (λ (e : EngineState). e.vars) c.in_ok-add_row.ensures.ok) (ap (λ (e : EngineState). e.held) c.in_ok-add_row.ensures.ok)
