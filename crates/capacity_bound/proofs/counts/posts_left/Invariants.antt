use Rattle.std.proofs.Common.{◌≡◌, ◌≤◌, ◌*◌, count_by, sum_by, min, not}
use Rattle.rank_tables.specs.Instance.{capacity_of, rising_pairs_of_hospital}
use Rattle.rank_tables.specs.Numbers.{below}
use Rattle.derivation.specs.Deletions.{is_deleted}
use Rattle.capacity_bound.proofs.counts.posts_left.Given as goal

abbrev pub invariant-loop-h : goal.invariant-loop-h
invariant-loop-h l =
    (l.posts ≡ sum_by (λ h. min (capacity_of l.inst h) (count_by (λ p. not (is_deleted l.gone p)) (rising_pairs_of_hospital l.inst h))) (below l.h))
    × (l.posts ≤ 20000 * l.h)
