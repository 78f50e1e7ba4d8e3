use Rattle.std.proofs.Common.{ℕ, List, ◌++◌, ◌≡◌}
use Rattle.pb_search.specs.Opening.{HasRows}
use Rattle.pb_search.proofs.Openings.{units_below}
use Rattle.pb_search.proofs.opening.hold_deleted.Given as goal

abbrev pub invariant-loop-p : goal.invariant-loop-p
invariant-loop-p l = (l.engine.vars ≡ l.fn.engine.vars) × ((numbers : List ℕ) → HasRows l.deriv l.fn.engine numbers → HasRows l.deriv l.engine (numbers ++ units_below l.p l.gone))
