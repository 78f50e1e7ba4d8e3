use Rattle.std.proofs.Common.{◌<◌, ℕ, List, length, arith, rules}
use Rattle.rank_tables.specs.WellFormed.{names_of_hospitals}
use Rattle.hrt_reader.proofs.Flat.{part_sent, part_failed, sent_as, failed_as}
use Rattle.hrt_reader.proofs.WrittenLines.{line_for, no_resident, resident_line}
use Rattle.hrt_reader.proofs.writing.write_residents.Goals as goal

pub loop-r-preserved : goal.loop-r-preserved
loop-r-preserved g c =
    let names : List (List ℕ) = names_of_hospitals c.args.instance.now in
    let inside : c.loop-r.r < length c.args.instance.now.residents = omega (arith, c.loop-r-test.true, c.requires.count) in
    let is = sent_as _ _ _ _ _ _ (resident_line c.args.instance.now c.loop-r.r inside) c.in_ok-write_resident.ensures.sent in
    part_sent (line_for names) c.args.instance.now.residents c.loop-r.r no_resident _ _ _ _ _ inside c.loop-r.invariant is

pub returns-in_err-write_resident-clause-failed : goal.returns-in_err-write_resident-clause-failed
returns-in_err-write_resident-clause-failed g c =
    let names : List (List ℕ) = names_of_hospitals c.args.instance.now in
    let inside : c.loop-r.r < length c.args.instance.now.residents = omega (arith, c.loop-r-test.true, c.requires.count) in
    let is = failed_as _ _ _ _ _ _ (resident_line c.args.instance.now c.loop-r.r inside) c.in_err-write_resident.ensures.failed in
    let part = part_failed (line_for names) c.args.instance.now.residents c.loop-r.r no_resident _ _ _ _ _ inside c.loop-r.invariant is in
    search rules
