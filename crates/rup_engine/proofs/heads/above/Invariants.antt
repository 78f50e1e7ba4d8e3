use Rattle.std.proofs.Common.{◌≤◌, ◌⊎◌, take}
use Rattle.std.specs.List.{All, Contains}
use Rattle.pb_rows.specs.Terms.{positive_part}
use Rattle.rup_engine.proofs.heads.above.Given as goal

abbrev pub invariant-loop-t : goal.invariant-loop-t
invariant-loop-t l = record {
  within : All (Contains l.terms) l.more.items;
  rest : All (λ t. Contains l.more.items t ⊎ (positive_part t.coef ≤ l.least)) (take l.t-index l.terms);
}
