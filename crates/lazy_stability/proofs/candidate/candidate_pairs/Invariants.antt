use Rattle.std.proofs.Common.{◌≡◌, ◌-◌, filter}
use Rattle.std.specs.List.{All}
use Rattle.rank_tables.specs.Numbers.{numbers_to}
use Rattle.rank_tables.specs.Tables.{IsPairNo, numbers_of}
use Rattle.lazy_stability.specs.Candidates.{point_of_trail}
use Rattle.lazy_stability.proofs.candidate.candidate_pairs.Given as goal

abbrev pub invariant-loop-var : goal.invariant-loop-var
invariant-loop-var l = (numbers_of l.pairs.items ≡ filter (point_of_trail l.engine.trail) (numbers_to (l.var - 1))) × All (λ p. IsPairNo l.inst p.0) l.pairs.items
