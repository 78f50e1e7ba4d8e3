use Rattle.std.proofs.Common.{◌≤◌, ◌<◌, ◌^◌, take}
use Rattle.std.specs.List.{All}
use Rattle.pb_rows.specs.Terms.{positive_part}
use Rattle.rup_engine.proofs.heads.greatest.Given as goal

abbrev pub invariant-loop-t : goal.invariant-loop-t
invariant-loop-t l = record {
  most : All (λ t. positive_part t.coef ≤ l.most) (take l.t-index l.terms);
  bound : l.most < 2 ^ 127;
}
