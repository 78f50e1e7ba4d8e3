use Rattle.std.proofs.Common.{◌≡◌, ◌∙◌, pos, ap, arith}
use Rattle.std.proofs.lemmas.Result.{on_ok_weaker, on_err_weaker}
use Rattle.rank_tables.specs.Instance.{Lists, capacity_of, pair_at}
use Rattle.hrt_base.proofs.Fronts.{front_as, none_front, on_err, sent_as}
use Rattle.opb_text.proofs.ModelText.{pair_spelled}
use Rattle.opb_text.proofs.Passed.{passed}
use Rattle.opb_text.proofs.writing.write_pair_row.Goals as goal

pub returns-in_err-row-clause-part : goal.returns-in_err-row-clause-part
returns-in_err-row-clause-part g c = on_err _ _ (none_front _ _ _ _)

pub returns-clause-sent : goal.returns-clause-sent
returns-clause-sent g c =
    let posts : c.capacity-capacity.result ≡ capacity_of c.args.model.now (pair_at c.args.model.now c.args.p.0).hospital =
    c.capacity-capacity.ensures.value ∙ ap (capacity_of c.instance-inst.result.now) c.hospital_of.ensures.value ∙ ap (λ (lists : Lists). capacity_of lists (pair_at lists c.args.p.0).hospital) c.instance-inst.ensures in
    let is = pair_spelled c.args.model.now c.args.p.0 c.pair_row.result c.in_ok-row.row _ c.in_ok-row.ensures c.pair_row.ensures.row
    (passed c.from.result (capacity_of c.args.model.now (pair_at c.args.model.now c.args.p.0).hospital) (c.from.ensures ∙ ap pos posts) (omega (arith, c.capacity-capacity.ensures.few, posts))) in
    on_ok_weaker _ (sent_as _ _ _ _ _ _ is) c.write_row.ensures.sent

pub returns-clause-part : goal.returns-clause-part
returns-clause-part g c =
    let posts : c.capacity-capacity.result ≡ capacity_of c.args.model.now (pair_at c.args.model.now c.args.p.0).hospital =
    c.capacity-capacity.ensures.value ∙ ap (capacity_of c.instance-inst.result.now) c.hospital_of.ensures.value ∙ ap (λ (lists : Lists). capacity_of lists (pair_at lists c.args.p.0).hospital) c.instance-inst.ensures in
    let is = pair_spelled c.args.model.now c.args.p.0 c.pair_row.result c.in_ok-row.row _ c.in_ok-row.ensures c.pair_row.ensures.row
    (passed c.from.result (capacity_of c.args.model.now (pair_at c.args.model.now c.args.p.0).hospital) (c.from.ensures ∙ ap pos posts) (omega (arith, c.capacity-capacity.ensures.few, posts))) in
    on_err_weaker _ (front_as _ _ _ _ _ _ is) c.write_row.ensures.part
