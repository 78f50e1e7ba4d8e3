use Rattle.std.proofs.Common.{◌<◌, length, ap, arith}
use Rattle.rank_tables.specs.Instance.{Lists}
use Rattle.opb_text.specs.Sending.{resident_line}
use Rattle.hrt_base.proofs.Fronts.{on_err}
use Rattle.opb_text.proofs.SentLines.{line_sent, line_front}
use Rattle.opb_text.proofs.writing.write_resident_rows.Goals as goal

pub loop-r-preserved : goal.loop-r-preserved
loop-r-preserved g c = line_sent _ _ (resident_line c.args.model.now) c.loop-r.r _ _ _ c.loop-r.invariant c.in_ok-write_resident_row.ensures.sent

pub returns-in_err-write_resident_row-clause-part : goal.returns-in_err-write_resident_row-clause-part
returns-in_err-write_resident_row-clause-part g c =
    let inside : c.loop-r.r < length c.args.model.now.residents = omega (arith, c.loop-r-test.true, c.residents-r-end.ensures.count, ap (λ (lists : Lists). length lists.residents) c.instance.ensures) in
    on_err _ _ (line_front _ _ (resident_line c.args.model.now) c.loop-r.r (length c.args.model.now.residents) _ _ _ inside c.loop-r.invariant c.in_err-write_resident_row.ensures.part)
