use Rattle.std.proofs.Common.{◌-◌}
use Rattle.rank_tables.specs.Numbers.{numbers_to}
use Rattle.pb_search.specs.Opening.{HasRows}
use Rattle.pb_search.proofs.opening.hold_first.Given as goal

abbrev pub invariant-loop-k : goal.invariant-loop-k
invariant-loop-k l = HasRows l.deriv l.engine (numbers_to (l.k - 1))
