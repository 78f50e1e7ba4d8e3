use Rattle.std.proofs.Common.{arith}
use Rattle.pb_rows.specs.Points.{point_of}
use Rattle.stability_model.specs.Model.{rows}
use Rattle.analysis_tests.proofs.Points.{hold_next}
use Rattle.analysis_tests.proofs.systems.hold_at.Goals as goal

pub loop-k-preserved : goal.loop-k-preserved
loop-k-preserved c =
    hold_next (point_of c.args.point.now) (rows c.args.model.now) c.loop-k.k c.in_ok-row.row c.holds.result c.loop-k.auto.k (omega (arith, c.loop-k-test.true, c.row_count-k-end.ensures.count)) c.loop-k.invariant c.in_ok-row.ensures c.holds.ensures.value c.if-not-holds.false
