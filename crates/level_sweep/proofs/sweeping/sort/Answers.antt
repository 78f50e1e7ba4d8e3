use Rattle.std.proofs.Common.{rules}
use Rattle.std.proofs.lemmas.List.Sorted.{IsNonDecreasingBy-from_sort_by_key}
use Rattle.level_sweep.specs.declared.sweeping.Standing.{Standing}
use Rattle.level_sweep.specs.Sweeps.{late}
use Rattle.level_sweep.proofs.Sorted.{falls}
use Rattle.level_sweep.proofs.sweeping.sort.Goals as goal

pub returns-clause-falling : goal.returns-clause-falling
returns-clause-falling c =
    falls c.sort_unstable_by_key.new.self (IsNonDecreasingBy-from_sort_by_key (λ (s : Standing). late s.stand) _ c.sort_unstable_by_key.ensures.sorted (λ a r q k. search rules))
