use Rattle.std.proofs.Common.{◌≡◌, ◌*◌, ◌≤◌, length, sum_by}
use Rattle.std.specs.List.{concat}
use Rattle.rank_tables.specs.Numbers.{below}
use Rattle.rank_tables.specs.WellFormed.{most_hospitals}
use Rattle.rank_tables.specs.Building.{resident_groups}
use Rattle.rank_tables.proofs.unanswered.named_hospitals.Given as goal

abbrev pub invariant-loop-resident : goal.invariant-loop-resident
invariant-loop-resident l =
    (l.count ≡ sum_by (λ r. length (concat (resident_groups l.residents r))) (below l.resident-index)) × (l.count ≤ l.resident-index * most_hospitals)
