use Rattle.std.proofs.Common.{◌≡◌, filter}
use Rattle.rank_tables.specs.Numbers.{numbers_to}
use Rattle.rank_tables.specs.Tables.{numbers_of}
use Rattle.promotion_heuristic.specs.Promotion.{holds}
use Rattle.promotion_heuristic.proofs.first.held_pairs.Given as goal

abbrev pub invariant-loop-before : goal.invariant-loop-before
invariant-loop-before l = numbers_of l.pairs.items ≡ filter (holds l.inst l.standings) (numbers_to l.before)
