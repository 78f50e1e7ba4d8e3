use Rattle.std.proofs.Common.{sym}
use Rattle.hrt_base.proofs.Pieces.{sent_more}
use Rattle.hrt_base.proofs.Fronts.{front_as, front_longer, front_then, on_err, sent_as}
use Rattle.opb_text.proofs.ModelBack.{model_back}
use Rattle.opb_text.proofs.ModelText.{text_parts}
use Rattle.opb_text.proofs.writing.write_model.Goals as goal

pub returns-in_err-write_header-clause-part : goal.returns-in_err-write_header-clause-part
returns-in_err-write_header-clause-part g c =
    on_err _ _ (front_as _ _ _ _ _ _ (sym (text_parts c.args.model.now)) (front_longer _ _ _ _ _ _ c.in_err-write_header.ensures.part))

pub returns-in_err-write_objective-clause-part : goal.returns-in_err-write_objective-clause-part
returns-in_err-write_objective-clause-part g c =
    on_err _ _ (front_as _ _ _ _ _ _ (sym (text_parts c.args.model.now)) (front_then _ _ _ _ _ _ _ c.in_ok-write_header.ensures.sent (front_longer _ _ _ _ _ _ c.in_err-write_objective.ensures.part)))

pub returns-in_err-write_resident_rows-clause-part : goal.returns-in_err-write_resident_rows-clause-part
returns-in_err-write_resident_rows-clause-part g c =
    on_err _ _ (front_as _ _ _ _ _ _ (sym (text_parts c.args.model.now)) (front_then _ _ _ _ _ _ _ c.in_ok-write_header.ensures.sent (front_then _ _ _ _ _ _ _ c.in_ok-write_objective.ensures.sent
    (front_longer _ _ _ _ _ _ c.in_err-write_resident_rows.ensures.part))))

pub returns-in_err-write_hospital_rows-clause-part : goal.returns-in_err-write_hospital_rows-clause-part
returns-in_err-write_hospital_rows-clause-part g c =
    on_err _ _ (front_as _ _ _ _ _ _ (sym (text_parts c.args.model.now)) (front_then _ _ _ _ _ _ _ c.in_ok-write_header.ensures.sent (front_then _ _ _ _ _ _ _ c.in_ok-write_objective.ensures.sent
    (front_then _ _ _ _ _ _ _ c.in_ok-write_resident_rows.ensures.sent (front_longer _ _ _ _ _ _ c.in_err-write_hospital_rows.ensures.part)))))

pub returns-in_err-write_pair_rows-clause-part : goal.returns-in_err-write_pair_rows-clause-part
returns-in_err-write_pair_rows-clause-part g c =
    on_err _ _ (front_as _ _ _ _ _ _ (sym (text_parts c.args.model.now)) (front_then _ _ _ _ _ _ _ c.in_ok-write_header.ensures.sent (front_then _ _ _ _ _ _ _ c.in_ok-write_objective.ensures.sent
    (front_then _ _ _ _ _ _ _ c.in_ok-write_resident_rows.ensures.sent (front_then _ _ _ _ _ _ _ c.in_ok-write_hospital_rows.ensures.sent c.in_err-write_pair_rows.ensures.part)))))

pub returns-clause-sent : goal.returns-clause-sent
returns-clause-sent g c =
    sent_as _ _ _ _ _ _ (sym (text_parts c.args.model.now)) (sent_more _ _ _ _ _ _ _ c.in_ok-write_header.ensures.sent (sent_more _ _ _ _ _ _ _ c.in_ok-write_objective.ensures.sent
    (sent_more _ _ _ _ _ _ _ c.in_ok-write_resident_rows.ensures.sent (sent_more _ _ _ _ _ _ _ c.in_ok-write_hospital_rows.ensures.sent c.in_ok-write_pair_rows.ensures.sent))))

pub returns-clause-read_back : goal.returns-clause-read_back
returns-clause-read_back g c = model_back c.args.model.now c.in_ok-write_resident_rows.ensures.well_formed c.in_ok-write_header.ensures.few
