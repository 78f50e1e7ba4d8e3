use Rattle.std.proofs.Common.{ap, length, arith}
use Rattle.pb_rows.specs.Points.{point_of}
use Rattle.rank_tables.specs.Instance.{pair_count}
use Rattle.derivation.proofs.Readiness.{row_numbered}
use Rattle.pb_propagate.specs.Engines.{EngineState}
use Rattle.analysis_tests.proofs.Logging.{better, logged_system, row_live, row_short, solution_writable}
use Rattle.analysis_tests.proofs.systems.log.Goals as goal

pub solution-requires-clause-writable : goal.solution-requires-clause-writable
solution-requires-clause-writable c = solution_writable (length c.args.point.now) (point_of c.args.point.now) (omega (arith, c.requires.full, c.pairs-pairs.ensures.count, c.pairs-pairs.ensures.few, ap pair_count c.instance.ensures))

pub row-requires-clause-live : goal.row-requires-clause-live
row-requires-clause-live c = row_numbered c.in_ok-id.id.0 (better c.args.deriv.now.lists (point_of c.args.point.now)) c.solution.new.self.state.live
    (row_live c.args.model.now c.args.engine.now c.args.deriv.now c.solution.new.self (length c.args.point.now) (point_of c.args.point.now) c.in_ok-id.id c.requires.system c.next.ensures.in_order c.requires.full c.requires.holds c.in_ok-id.ensures.id c.in_ok-id.ensures.step)

pub add_row-requires-clause-covered : goal.add_row-requires-clause-covered
add_row-requires-clause-covered c = (row_short c.args.model.now c.args.engine.now c.args.deriv.now c.solution.new.self (length c.args.point.now) (point_of c.args.point.now) c.in_ok-id.id c.requires.system c.next.ensures.in_order c.requires.full c.requires.holds c.in_ok-id.ensures.id c.in_ok-id.ensures.step c.in_ok-row.row c.in_ok-row.ensures (omega (arith, c.pairs-pairs.ensures.count, c.pairs-pairs.ensures.few, ap pair_count c.instance.ensures))).over

pub add_row-requires-clause-short : goal.add_row-requires-clause-short
add_row-requires-clause-short c = (row_short c.args.model.now c.args.engine.now c.args.deriv.now c.solution.new.self (length c.args.point.now) (point_of c.args.point.now) c.in_ok-id.id c.requires.system c.next.ensures.in_order c.requires.full c.requires.holds c.in_ok-id.ensures.id c.in_ok-id.ensures.step c.in_ok-row.row c.in_ok-row.ensures (omega (arith, c.pairs-pairs.ensures.count, c.pairs-pairs.ensures.few, ap pair_count c.instance.ensures))).short

pub returns-clause-system : goal.returns-clause-system
returns-clause-system c = logged_system c.args.model.now c.args.engine.now c.args.deriv.now c.solution.new.self (length c.args.point.now) (point_of c.args.point.now) c.in_ok-id.id c.requires.system c.next.ensures.in_order c.requires.full c.requires.holds c.in_ok-id.ensures.id c.in_ok-id.ensures.step c.in_ok-row.row c.in_ok-row.ensures (omega (arith, c.pairs-pairs.ensures.count, c.pairs-pairs.ensures.few, ap pair_count c.instance.ensures)) c.add_row.new.self c.in_ok-add_row.field-0.0
    (ap (λ (e : EngineState). e.vars) c.in_ok-add_row.ensures.ok) (ap (λ (e : EngineState). e.held) c.in_ok-add_row.ensures.ok)
