use Rattle.std.proofs.Common.{◌≡◌, count_by, not}
use Rattle.std.specs.List.{list_any}
use Rattle.rank_tables.specs.Instance.{pairs_of_resident}
use Rattle.rank_tables.specs.Numbers.{below}
use Rattle.derivation.specs.Deletions.{is_deleted}
use Rattle.capacity_bound.proofs.counts.residents_left.Given as goal

abbrev pub invariant-loop-r : goal.invariant-loop-r
invariant-loop-r l = l.residents ≡ count_by (λ r. list_any (λ p. not (is_deleted l.gone p)) (pairs_of_resident l.inst r)) (below l.r)
