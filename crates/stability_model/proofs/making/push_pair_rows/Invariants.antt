use Rattle.std.proofs.Common.{◌≡◌, ◌++◌, map}
use Rattle.pb_rows.specs.Rows.{in_normal_form}
use Rattle.rank_tables.specs.Numbers.{numbers_to}
use Rattle.stability_model.specs.Model.{pair_row}
use Rattle.stability_model.proofs.making.push_pair_rows.Given as goal

abbrev pub invariant-loop-k : goal.invariant-loop-k
invariant-loop-k l = l.rows.items ≡ l.initial.rows.items ++ map in_normal_form (map (pair_row l.inst) (numbers_to l.k))
