use Rattle.std.proofs.Common.{◌≡◌, ℕ, [], length}
use Rattle.stability_model.specs.Making.{bucket_at}
use Rattle.stability_model.proofs.buckets.empty_buckets.Given as goal

abbrev pub invariant-loop-h : goal.invariant-loop-h
invariant-loop-h l = (length l.buckets.items ≡ l._h) × ((h : ℕ) → bucket_at l.buckets.items h ≡ [])
