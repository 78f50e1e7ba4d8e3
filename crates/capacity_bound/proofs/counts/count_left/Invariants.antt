use Rattle.std.proofs.Common.{◌≡◌, count_by, not, take}
use Rattle.rank_tables.specs.Tables.{numbers_of}
use Rattle.derivation.specs.Deletions.{is_deleted}
use Rattle.capacity_bound.proofs.counts.count_left.Given as goal

abbrev pub invariant-loop-p : goal.invariant-loop-p
invariant-loop-p l = l.left ≡ count_by (λ p. not (is_deleted l.gone p)) (numbers_of (take l.p-index l.pairs))
