use Rattle.std.proofs.Common.{◌≡◌, ℕ, ◌==◌, length, filter}
use Rattle.rank_tables.specs.Numbers.{numbers_to}
use Rattle.rank_tables.specs.Instance.{pair_at}
use Rattle.rank_tables.specs.Tables.{numbers_of}
use Rattle.stability_model.specs.Making.{bucket_at}
use Rattle.stability_model.proofs.buckets.pairs_by_hospital.Given as goal

abbrev pub invariant-loop-k : goal.invariant-loop-k
invariant-loop-k l =
    (length l.buckets.items ≡ length l.fn.inst.hospitals)
    × ((h : ℕ) → numbers_of (bucket_at l.buckets.items h) ≡ filter (λ p. (pair_at l.fn.inst p).hospital == h) (numbers_to l.k))
