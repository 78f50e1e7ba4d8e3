use Rattle.std.proofs.Common.{◌<◌, length, ap, arith}
use Rattle.rank_tables.specs.Instance.{Lists}
use Rattle.opb_text.specs.Sending.{hospital_line}
use Rattle.hrt_base.proofs.Fronts.{on_err}
use Rattle.opb_text.proofs.SentLines.{line_sent, line_front}
use Rattle.opb_text.proofs.writing.write_hospital_rows.Goals as goal

pub loop-h-preserved : goal.loop-h-preserved
loop-h-preserved g c = line_sent _ _ (hospital_line c.args.model.now) c.loop-h.h _ _ _ c.loop-h.invariant c.in_ok-write_hospital_row.ensures.sent

pub returns-in_err-write_hospital_row-clause-part : goal.returns-in_err-write_hospital_row-clause-part
returns-in_err-write_hospital_row-clause-part g c =
    let inside : c.loop-h.h < length c.args.model.now.hospitals = omega (arith, c.loop-h-test.true, c.hospitals-h-end.ensures.count, ap (λ (lists : Lists). length lists.hospitals) c.instance.ensures) in
    on_err _ _ (line_front _ _ (hospital_line c.args.model.now) c.loop-h.h (length c.args.model.now.hospitals) _ _ _ inside c.loop-h.invariant c.in_err-write_hospital_row.ensures.part)
