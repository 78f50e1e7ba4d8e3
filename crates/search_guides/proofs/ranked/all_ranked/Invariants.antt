use Rattle.std.proofs.Common.{◌≡◌, map}
use Rattle.rank_tables.specs.Numbers.{numbers_to}
use Rattle.search_guides.specs.Ranks.{ranked}
use Rattle.search_guides.proofs.ranked.all_ranked.Given as goal

abbrev pub invariant-loop-before : goal.invariant-loop-before
invariant-loop-before l = l.order.items ≡ map (ranked l.inst) (numbers_to l.before)
