use Rattle.std.proofs.Common.{◌<◌, length, map, get_or, sym, arith}
use Rattle.std.proofs.lemmas.List.{length-map, get_or-map}
use Rattle.rank_tables.specs.declared.entry.PairEntry.{PairEntry}
use Rattle.rank_tables.specs.Building.{row_at}
use Rattle.rank_tables.proofs.Listed.{row_marks}
use Rattle.rank_tables.proofs.listing.by_hospital.Goals as goal

none : PairEntry
none = record { resident = 0; hospital = 0; resident_rank = 0; hospital_rank = 0 }

pub loop-i-preserved : goal.loop-i-preserved
unfolding none
loop-i-preserved c =
    let i = c.loop-i.i in
    let entries = c.args.entries.now in
    let resident_of = λ (entry : PairEntry). entry.resident in
    let hospital_of = λ (entry : PairEntry). entry.hospital in
    let within : i < length entries = omega arith in (
      omega (arith, c.push_at.ensures.count, c.loop-i.invariant.0),
      λ h. row_marks (map resident_of entries) (map hospital_of entries) i h (get_or entries i none).resident (get_or entries i none).hospital
          (row_at c.loop-i.rows.items h) (row_at c.push_at.new.rows.items h)
          (omega (arith, length-map entries hospital_of)) (sym (get_or-map resident_of entries i none 0 within)) (sym (get_or-map hospital_of entries i none 0 within))
          (c.in_ok-push_at.ensures.pushed h) (c.loop-i.invariant.1 h),
    )
