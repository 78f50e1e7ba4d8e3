use Rattle.std.proofs.Common.{ℕ, ◌<◌, suc, ap, add-one, subst, arith}
use Rattle.hrt_base.specs.declared.port.Port.TheVariants.{Model}
use Rattle.hrt_base.specs.Calls.{Sent}
use Rattle.rank_tables.specs.Instance.{pair_count}
use Rattle.hrt_base.specs.Calls.{SentFront}
use Rattle.opb_text.specs.Sending.{pair_line}
use Rattle.hrt_base.proofs.Fronts.{on_err}
use Rattle.opb_text.proofs.SentLines.{line_sent, line_front}
use Rattle.opb_text.proofs.writing.write_pair_rows.Goals as goal

pub loop-k-preserved : goal.loop-k-preserved
loop-k-preserved g c =
    line_sent _ _ (λ k. pair_line c.args.model.now (suc k)) c.loop-k.k _ _ _ c.loop-k.invariant
    (subst (λ (p : ℕ). Sent g.H.Host.told Model (pair_line c.args.model.now p) (g.H.Host.world c.loop-k.host) (g.H.Host.world c.write_pair_row.new.host)) (add-one c.loop-k.k) c.in_ok-write_pair_row.ensures.sent)

pub returns-in_err-write_pair_row-clause-part : goal.returns-in_err-write_pair_row-clause-part
returns-in_err-write_pair_row-clause-part g c =
    let inside : c.loop-k.k < pair_count c.args.model.now = omega (arith, c.loop-k-test.true, c.pairs-k-end.ensures.count, ap pair_count c.instance.ensures) in
    on_err _ _ (line_front _ _ (λ k. pair_line c.args.model.now (suc k)) c.loop-k.k (pair_count c.args.model.now) _ _ _ inside c.loop-k.invariant
    (subst (λ (p : ℕ). SentFront g.H.Host.told Model (pair_line c.args.model.now p) (g.H.Host.world c.loop-k.host) (g.H.Host.world c.write_pair_row.new.host)) (add-one c.loop-k.k) c.in_err-write_pair_row.ensures.part))
