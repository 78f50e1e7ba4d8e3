use Rattle.std.proofs.Common.{◌≡◌, ◌∙◌, pos, ap, arith}
use Rattle.std.proofs.lemmas.Result.{on_ok_weaker, on_err_weaker}
use Rattle.rank_tables.specs.Instance.{Lists, capacity_of}
use Rattle.hrt_base.proofs.Fronts.{front_as, none_front, on_err, sent_as}
use Rattle.opb_text.proofs.ModelText.{hospital_spelled}
use Rattle.opb_text.proofs.Passed.{minus_passed}
use Rattle.opb_text.proofs.writing.write_hospital_row.Goals as goal

pub returns-in_err-row-clause-part : goal.returns-in_err-row-clause-part
returns-in_err-row-clause-part g c = on_err _ _ (none_front _ _ _ _)

pub returns-clause-sent : goal.returns-clause-sent
returns-clause-sent g c =
    let posts : c.capacity.result ≡ capacity_of c.args.model.now c.args.h = c.capacity.ensures.value ∙ ap (λ (lists : Lists). capacity_of lists c.args.h) c.instance.ensures in
    let is = hospital_spelled c.args.model.now c.args.h c.in-Some.k c.in_ok-row.row _ c.in-Some.ensures.number c.in_ok-row.ensures c.in-Some.ensures.row
    (minus_passed c.from.result (capacity_of c.args.model.now c.args.h) (c.from.ensures ∙ ap pos posts) (omega (arith, c.capacity.ensures.few, posts))) in
    on_ok_weaker _ (sent_as _ _ _ _ _ _ is) c.write_row.ensures.sent

pub returns-clause-part : goal.returns-clause-part
returns-clause-part g c =
    let posts : c.capacity.result ≡ capacity_of c.args.model.now c.args.h = c.capacity.ensures.value ∙ ap (λ (lists : Lists). capacity_of lists c.args.h) c.instance.ensures in
    let is = hospital_spelled c.args.model.now c.args.h c.in-Some.k c.in_ok-row.row _ c.in-Some.ensures.number c.in_ok-row.ensures c.in-Some.ensures.row
    (minus_passed c.from.result (capacity_of c.args.model.now c.args.h) (c.from.ensures ∙ ap pos posts) (omega (arith, c.capacity.ensures.few, posts))) in
    on_err_weaker _ (front_as _ _ _ _ _ _ is) c.write_row.ensures.part
