use Rattle.std.proofs.Common.{refl}
use Rattle.std.proofs.lemmas.Result.{on_ok_weaker, on_err_weaker}
use Rattle.hrt_base.proofs.Fronts.{front_as, none_front, on_err, sent_as}
use Rattle.opb_text.proofs.ModelText.{resident_spelled}
use Rattle.opb_text.proofs.writing.write_resident_row.Goals as goal

pub returns-in_err-row-clause-part : goal.returns-in_err-row-clause-part
returns-in_err-row-clause-part g c = on_err _ _ (none_front _ _ _ _)

pub returns-clause-sent : goal.returns-clause-sent
returns-clause-sent g c =
    let is = resident_spelled c.args.model.now c.args.r c.in-Some.k c.in_ok-row.row _ c.in-Some.ensures.number c.in_ok-row.ensures c.in-Some.ensures.row refl in
    on_ok_weaker _ (sent_as _ _ _ _ _ _ is) c.write_row.ensures.sent

pub returns-clause-part : goal.returns-clause-part
returns-clause-part g c =
    let is = resident_spelled c.args.model.now c.args.r c.in-Some.k c.in_ok-row.row _ c.in-Some.ensures.number c.in_ok-row.ensures c.in-Some.ensures.row refl in
    on_err_weaker _ (front_as _ _ _ _ _ _ is) c.write_row.ensures.part
