use Rattle.std.proofs.Common.{◌≡◌, ◌*◌, ◌-◌, ◌≤◌, length, sum_by}
use Rattle.std.specs.List.{concat}
use Rattle.rank_tables.specs.Numbers.{below}
use Rattle.rank_tables.specs.WellFormed.{most_residents}
use Rattle.rank_tables.specs.Building.{row_at, hospital_groups}
use Rattle.rank_tables.proofs.unanswered.silent_residents.Given as goal

abbrev pub invariant-loop-h : goal.invariant-loop-h
invariant-loop-h l =
    (l.count ≡ sum_by (λ h. length (concat (hospital_groups l.hospitals h)) - length (row_at l.pairs h)) (below l.h)) × (l.count ≤ l.h * most_residents)
