use Rattle.std.proofs.Common.{◌≡◌, [], map}
use Rattle.rank_tables.specs.Numbers.{below}
use Rattle.stability_model.specs.Model.{resident_has_pair, resident_row, resident_row_no}
use Rattle.stability_model.proofs.Growing.{rows_to}
use Rattle.stability_model.proofs.making.push_resident_rows.Given as goal

abbrev pub invariant-loop-r : goal.invariant-loop-r
invariant-loop-r l =
    (l.rows.items ≡ rows_to [] (resident_row l.inst) (resident_has_pair l.inst) l.r) × (l.numbers.items ≡ map (resident_row_no l.inst) (below l.r))
