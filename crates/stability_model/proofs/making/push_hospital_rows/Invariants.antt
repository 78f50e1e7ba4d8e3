use Rattle.std.proofs.Common.{◌≡◌, map}
use Rattle.rank_tables.specs.Numbers.{below}
use Rattle.stability_model.specs.Model.{hospital_has_pair, hospital_row, hospital_row_no, resident_rows}
use Rattle.stability_model.proofs.Growing.{rows_to}
use Rattle.stability_model.proofs.making.push_hospital_rows.Given as goal

abbrev pub invariant-loop-h : goal.invariant-loop-h
invariant-loop-h l =
    (l.rows.items ≡ rows_to (resident_rows l.inst) (hospital_row l.inst) (hospital_has_pair l.inst) l.h) × (l.numbers.items ≡ map (hospital_row_no l.inst) (below l.h))
