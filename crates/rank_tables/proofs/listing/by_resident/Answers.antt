use Rattle.std.proofs.Common.{◌<◌, length, map, get_or, sym, arith}
use Rattle.std.proofs.lemmas.List.{length-map, get_or-map}
use Rattle.rank_tables.specs.declared.entry.PairEntry.{PairEntry}
use Rattle.rank_tables.specs.Building.{row_at}
use Rattle.rank_tables.proofs.Listed.{row_numbers}
use Rattle.rank_tables.proofs.listing.by_resident.Goals as goal

none : PairEntry
none = record { resident = 0; hospital = 0; resident_rank = 0; hospital_rank = 0 }

pub loop-i-preserved : goal.loop-i-preserved
unfolding none
loop-i-preserved c =
    let i = c.loop-i.i in
    let entries = c.args.entries.now in
    let resident_of = λ (entry : PairEntry). entry.resident in
    let within : i < length entries = omega arith in (
      omega (arith, c.push_at.ensures.count, c.loop-i.invariant.0),
      λ r. row_numbers (map resident_of entries) i r (get_or entries i none).resident (row_at c.loop-i.rows.items r) (row_at c.push_at.new.rows.items r)
          (omega (arith, length-map entries resident_of)) (sym (get_or-map resident_of entries i none 0 within))
          (c.in_ok-push_at.ensures.pushed r) (c.loop-i.invariant.1 r),
    )
