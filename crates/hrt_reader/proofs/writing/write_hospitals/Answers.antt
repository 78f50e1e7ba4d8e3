use Rattle.std.proofs.Common.{◌<◌, ℕ, List, length, arith, rules}
use Rattle.rank_tables.specs.WellFormed.{names_of_residents}
use Rattle.hrt_reader.proofs.Flat.{part_sent, part_failed, sent_as, failed_as}
use Rattle.hrt_reader.proofs.WrittenLines.{hospital_line_for, no_hospital, hospital_line}
use Rattle.hrt_reader.proofs.writing.write_hospitals.Goals as goal

pub loop-h-preserved : goal.loop-h-preserved
loop-h-preserved g c =
    let names : List (List ℕ) = names_of_residents c.args.instance.now in
    let inside : c.loop-h.h < length c.args.instance.now.hospitals = omega (arith, c.loop-h-test.true, c.requires.count) in
    let is = sent_as _ _ _ _ _ _ (hospital_line c.args.instance.now c.loop-h.h inside) c.in_ok-write_hospital.ensures.sent in
    part_sent (hospital_line_for names) c.args.instance.now.hospitals c.loop-h.h no_hospital _ _ _ _ _ inside c.loop-h.invariant is

pub returns-in_err-write_hospital-clause-failed : goal.returns-in_err-write_hospital-clause-failed
returns-in_err-write_hospital-clause-failed g c =
    let names : List (List ℕ) = names_of_residents c.args.instance.now in
    let inside : c.loop-h.h < length c.args.instance.now.hospitals = omega (arith, c.loop-h-test.true, c.requires.count) in
    let is = failed_as _ _ _ _ _ _ (hospital_line c.args.instance.now c.loop-h.h inside) c.in_err-write_hospital.ensures.failed in
    let part = part_failed (hospital_line_for names) c.args.instance.now.hospitals c.loop-h.h no_hospital _ _ _ _ _ inside c.loop-h.invariant is in
    search rules
