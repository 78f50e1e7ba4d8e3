use Rattle.std.proofs.Common.{◌≡◌}
use Rattle.lazy_stability.specs.Table.{sizes_of}
use Rattle.pb_search.specs.Loop.{IsAtStep, distance_left}
use Rattle.pb_search.proofs.looping.search_on.Given as goal

abbrev pub invariant-loop-end : goal.invariant-loop-end
invariant-loop-end g l = record {
  same : l.model ≡ l.deriv.lists;
  sizes : l.posts ≡ sizes_of l.deriv.lists;
  is : IsAtStep l.limits l.found.items l.fn.deriv l.engine l.deriv;
}

abbrev pub decreases-loop-end : goal.decreases-loop-end
decreases-loop-end g l = distance_left l.limits l.found.items l.engine l.deriv
