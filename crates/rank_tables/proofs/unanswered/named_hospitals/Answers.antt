use Rattle.std.proofs.Common.{length, ap, arith}
use Rattle.std.specs.List.{concat}
use Rattle.rank_tables.specs.Building.{resident_groups}
use Rattle.rank_tables.proofs.ListFacts.{resident_list-ranked, resident_groups-read}
use Rattle.rank_tables.proofs.OneSided.{sum_by-below}
use Rattle.rank_tables.proofs.unanswered.named_hospitals.Goals as goal

pub named-count-requires : goal.named-count-requires
named-count-requires c =
    let list = resident_list-ranked c.args.hospitals c.args.residents.now c.loop-resident.resident-index c.resident-item.result c.requires.lists (omega arith) c.resident-item.is in
    omega (arith, list.few, c.requires.few_hospitals)

pub overflow_add-count : goal.overflow_add-count
overflow_add-count c =
    let list = resident_list-ranked c.args.hospitals c.args.residents.now c.loop-resident.resident-index c.resident-item.result c.requires.lists (omega arith) c.resident-item.is in
    omega (arith, list.few, c.named-count.ensures, c.loop-resident.invariant.1, c.requires.few_residents, c.requires.few_hospitals)

pub loop-resident-preserved : goal.loop-resident-preserved
loop-resident-preserved c =
    let residents = c.args.residents.now in
    let r = c.loop-resident.resident-index in
    let list = resident_list-ranked c.args.hospitals residents r c.resident-item.result c.requires.lists (omega arith) c.resident-item.is in
    let groups = ap (λ g. length (concat g)) (resident_groups-read residents r c.resident-item.result (omega arith) c.resident-item.is) in
    let more = sum_by-below (λ r. length (concat (resident_groups residents r))) r in
    (omega (arith, more, groups, c.named-count.ensures, c.loop-resident.invariant.0), omega (arith, list.few, c.named-count.ensures, c.loop-resident.invariant.1, c.requires.few_hospitals))
