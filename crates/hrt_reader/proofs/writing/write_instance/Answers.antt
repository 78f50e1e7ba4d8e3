use Rattle.std.proofs.Common.{◌++◌, ℕ, List, rules}
use Rattle.std.specs.Prelude.{flat_map, codes}
use Rattle.std.proofs.lemmas.Result.{on_ok_weaker, on_err_weaker}
use Rattle.rank_tables.specs.Instance.{Lists}
use Rattle.rank_tables.specs.WellFormed.{names_of_residents, names_of_hospitals}
use Rattle.hrt_base.proofs.Pieces.{part_longer, sent_more, sent_then_part}
use Rattle.hrt_reader.proofs.Flat.{failed_as, sent_as, three_sent, second_failed, third_failed}
use Rattle.hrt_reader.proofs.RoundTrip.{spelled_back}
use Rattle.hrt_reader.proofs.WrittenLines.{line_for, hospital_line_for, spelling_pieces}
use Rattle.hrt_reader.proofs.writing.write_instance.Goals as goal

abbrev residents_text : Lists → List ℕ
residents_text lists = flat_map (line_for (names_of_hospitals lists)) lists.residents

abbrev hospitals_text : Lists → List ℕ
hospitals_text lists = flat_map (hospital_line_for (names_of_residents lists)) lists.hospitals

pub returns-in_err-write_all-clause-failed : goal.returns-in_err-write_all-clause-failed
returns-in_err-write_all-clause-failed g c =
    let lists : Lists = c.args.inst.now in
    let part = failed_as _ _ _ _ _ _ (spelling_pieces lists) (part_longer _ _ (codes "hrt 1\n") (residents_text lists ++ (hospitals_text lists ++ codes "end\n")) _ _ c.in_err-write_all.ensures.failed) in
    search rules

pub returns-in_err-write_residents-clause-failed : goal.returns-in_err-write_residents-clause-failed
returns-in_err-write_residents-clause-failed g c =
    let lists : Lists = c.args.inst.now in
    let part = failed_as _ _ _ _ _ _ (spelling_pieces lists) (second_failed _ _ (codes "hrt 1\n") (residents_text lists) (hospitals_text lists ++ codes "end\n") _ _ _ c.in_ok-write_all.ensures.sent c.in_err-write_residents.ensures.failed) in
    search rules

pub returns-in_err-write_hospitals-clause-failed : goal.returns-in_err-write_hospitals-clause-failed
returns-in_err-write_hospitals-clause-failed g c =
    let lists : Lists = c.args.inst.now in
    let later = second_failed _ _ (residents_text lists) (hospitals_text lists) (codes "end\n") _ _ _ c.in_ok-write_residents.ensures.sent c.in_err-write_hospitals.ensures.failed in
    let part = failed_as _ _ _ _ _ _ (spelling_pieces lists) (sent_then_part _ _ (codes "hrt 1\n") _ _ _ _ c.in_ok-write_all.ensures.sent later) in
    search rules

pub returns-clause-sent : goal.returns-clause-sent
returns-clause-sent g c =
    let lists : Lists = c.args.inst.now in
    on_ok_weaker _ (λ sent. sent_as _ _ _ _ _ _ (spelling_pieces lists) (sent_more _ _ (codes "hrt 1\n") _ _ _ _ c.in_ok-write_all.ensures.sent
    (three_sent _ _ (residents_text lists) (hospitals_text lists) (codes "end\n") _ _ _ _ c.in_ok-write_residents.ensures.sent c.in_ok-write_hospitals.ensures.sent sent)))
    c.write_all-2.ensures.sent

pub returns-clause-failed : goal.returns-clause-failed
returns-clause-failed g c =
    let lists : Lists = c.args.inst.now in
    on_err_weaker _ (λ part. failed_as _ _ _ _ _ _ (spelling_pieces lists) (sent_then_part _ _ (codes "hrt 1\n") _ _ _ _ c.in_ok-write_all.ensures.sent
    (third_failed _ _ (residents_text lists) (hospitals_text lists) (codes "end\n") _ _ _ _ c.in_ok-write_residents.ensures.sent c.in_ok-write_hospitals.ensures.sent part)))
    c.write_all-2.ensures.failed

pub returns-in_err-write_all-clause-read_back : goal.returns-in_err-write_all-clause-read_back
returns-in_err-write_all-clause-read_back g c = spelled_back c.args.inst.now c.residents-residents.ensures.well_formed

pub returns-in_err-write_residents-clause-read_back : goal.returns-in_err-write_residents-clause-read_back
returns-in_err-write_residents-clause-read_back g c = spelled_back c.args.inst.now c.residents-residents.ensures.well_formed

pub returns-in_err-write_hospitals-clause-read_back : goal.returns-in_err-write_hospitals-clause-read_back
returns-in_err-write_hospitals-clause-read_back g c = spelled_back c.args.inst.now c.residents-residents.ensures.well_formed

pub returns-clause-read_back : goal.returns-clause-read_back
returns-clause-read_back g c = spelled_back c.args.inst.now c.residents-residents.ensures.well_formed
