use Rattle.std.proofs.Common.{◌≡◌, ◌==◌, drop}
use Rattle.std.specs.List.{find}
use Rattle.rank_tables.specs.Instance.{pair_at, pair_no}
use Rattle.rank_tables.specs.Tables.{numbers_of}
use Rattle.rank_tables.proofs.instance.Instance.pair_no.Given as goal

abbrev pub invariant-loop-p : goal.invariant-loop-p
invariant-loop-p l = find (λ p. (pair_at l.self p).hospital == l.h) (numbers_of (drop l.p-index l.p-items)) ≡ pair_no l.self l.r l.h
