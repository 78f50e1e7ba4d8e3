use Rattle.std.proofs.Common.{ap, arith}
use Rattle.pair_reduction.proofs.UnitMade.{adds_unit, implied_as, note_made, note_short, noted_unit, stopped, taken_unit, unit_writable}
use Rattle.rank_tables.specs.Instance.{pair_count}
use Rattle.derivation.proofs.InOrder.{end_above}
use Rattle.pair_reduction.proofs.units.delete.Goals as goal

pub rup-requires-clause-writable : goal.rup-requires-clause-writable
rup-requires-clause-writable c = unit_writable c.in_ok-row.row c.args.p.0 c.in_ok-row.ensures c.requires.p.0 (omega (arith, c.requires.p.1, c.pairs.ensures.count, c.pairs.ensures.few, ap pair_count c.instance.ensures))

pub rup-requires-clause-implied : goal.rup-requires-clause-implied
rup-requires-clause-implied c = implied_as c.in_ok-row.row c.args.p.0 c.args.deriv.now.state c.in_ok-row.ensures c.requires.implied

pub note-requires-clause-made : goal.note-requires-clause-made
note-requires-clause-made c = note_made c.in_ok-id.id.0 c.args.deriv.now.state.next c.in_ok-id.ensures.id (end_above 1 c.args.deriv.now.state.next c.args.deriv.now.state.live c.next.ensures.in_order) c.requires.next

pub note-requires-clause-short : goal.note-requires-clause-short
note-requires-clause-short c = note_short c.in_ok-id.id.0 (omega (arith, c.in_ok-id.ensures.id, c.requires.next))

pub returns-in_err-note-clause-early : goal.returns-in_err-note-clause-early
returns-in_err-note-clause-early c =
    stopped c.from_residual-in_err-note.result c.args.p.0 c.args.deriv.now c.rup.new.self c.note.new.self (taken_unit c.in_ok-row.row c.args.p.0 c.args.deriv.now c.rup.new.self c.in_ok-row.ensures c.in_ok-id.ensures.step) c.in_err-note.ensures.note

pub returns-clause-made : goal.returns-clause-made
returns-clause-made c =
    noted_unit c.args.p.0 c.args.deriv.now c.rup.new.self c.note.new.self c.in_ok-id.id (taken_unit c.in_ok-row.row c.args.p.0 c.args.deriv.now c.rup.new.self c.in_ok-row.ensures c.in_ok-id.ensures.step) c.in_ok-id.ensures.id c.in_ok-note.ensures.note

pub returns-clause-adds : goal.returns-clause-adds
returns-clause-adds c =
    adds_unit c.in_ok-row.row c.args.p.0 c.args.deriv.now c.rup.new.self c.note.new.self c.in_ok-id.id c.in_ok-row.ensures (taken_unit c.in_ok-row.row c.args.p.0 c.args.deriv.now c.rup.new.self c.in_ok-row.ensures c.in_ok-id.ensures.step)
    (unit_writable c.in_ok-row.row c.args.p.0 c.in_ok-row.ensures c.requires.p.0 (omega (arith, c.requires.p.1, c.pairs.ensures.count, c.pairs.ensures.few, ap pair_count c.instance.ensures))) c.requires.open c.next.ensures.in_order c.in_ok-id.ensures.step c.in_ok-id.ensures.id (note_made c.in_ok-id.id.0 c.args.deriv.now.state.next c.in_ok-id.ensures.id (end_above 1 c.args.deriv.now.state.next c.args.deriv.now.state.live c.next.ensures.in_order) c.requires.next) (note_short c.in_ok-id.id.0 (omega (arith, c.in_ok-id.ensures.id, c.requires.next))) c.in_ok-note.ensures.note
