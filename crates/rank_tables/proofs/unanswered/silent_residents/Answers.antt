use Rattle.std.proofs.Common.{◌-◌, length, ap, sym, ◌∙◌, arith}
use Rattle.std.specs.List.{concat}
use Rattle.rank_tables.specs.Building.{row_at, hospital_groups}
use Rattle.rank_tables.proofs.ListFacts.{hospital_list-ranked, hospital_groups-read}
use Rattle.rank_tables.proofs.RowsGrow.{row_at-read}
use Rattle.rank_tables.proofs.OneSided.{sum_by-below}
use Rattle.rank_tables.proofs.unanswered.silent_residents.Goals as goal

pub named-requires : goal.named-requires
named-requires c =
    let list = hospital_list-ranked c.args.residents c.args.hospitals.now c.loop-h.h c.index-hospitals-h.result c.requires.lists (omega arith) c.index-hospitals-h.is in
    omega (arith, list.few, c.requires.few_residents)

pub overflow_sub-count : goal.overflow_sub-count
overflow_sub-count c =
    let hospitals = c.args.hospitals.now in
    let h = c.loop-h.h in
    let groups = ap (λ g. length (concat g)) (hospital_groups-read hospitals h c.index-hospitals-h.result (omega arith) c.index-hospitals-h.is) in
    let row = ap length (row_at-read c.args.pairs.now h c.index-pairs-h.result (omega (arith, c.requires.count)) ∙ sym (ap (λ row. row.items) c.index-pairs-h.is)) in
    omega (arith, groups, row, c.index-pairs-h.result.ok.0, c.len.ensures, c.named.ensures, c.requires.part h (omega arith))

pub overflow_add-count : goal.overflow_add-count
overflow_add-count c =
    let list = hospital_list-ranked c.args.residents c.args.hospitals.now c.loop-h.h c.index-hospitals-h.result c.requires.lists (omega arith) c.index-hospitals-h.is in
    omega (arith, list.few, c.named.ensures, c.loop-h.invariant.1, c.requires.few_residents, c.requires.few_hospitals)

pub loop-h-preserved : goal.loop-h-preserved
loop-h-preserved c =
    let hospitals = c.args.hospitals.now in
    let h = c.loop-h.h in
    let list = hospital_list-ranked c.args.residents hospitals h c.index-hospitals-h.result c.requires.lists (omega arith) c.index-hospitals-h.is in
    let groups = ap (λ g. length (concat g)) (hospital_groups-read hospitals h c.index-hospitals-h.result (omega arith) c.index-hospitals-h.is) in
    let row = ap length (row_at-read c.args.pairs.now h c.index-pairs-h.result (omega (arith, c.requires.count)) ∙ sym (ap (λ row. row.items) c.index-pairs-h.is)) in
    let more = sum_by-below (λ h. length (concat (hospital_groups hospitals h)) - length (row_at c.args.pairs.now h)) h in (
      omega (arith, more, groups, row, c.index-pairs-h.result.ok.0, c.len.ensures, c.named.ensures, c.loop-h.invariant.0),
      omega (arith, list.few, c.named.ensures, c.loop-h.invariant.1, c.requires.few_residents),
    )
