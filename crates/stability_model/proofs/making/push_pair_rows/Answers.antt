use Rattle.std.proofs.Common.{length, map, ap, arith}
use Rattle.std.proofs.lemmas.List.{length-append, length-map}
use Rattle.pb_rows.specs.Rows.{in_normal_form}
use Rattle.rank_tables.specs.Numbers.{numbers_to}
use Rattle.stability_model.specs.Model.{pair_row}
use Rattle.stability_model.proofs.Growing.{length-numbers_to}
use Rattle.stability_model.proofs.making.push_pair_rows.Goals as goal

pub returns-clause-few : goal.returns-clause-few
returns-clause-few c =
    let written = map (pair_row c.args.inst.now) (numbers_to c.loop-k.k) in
    omega (
      arith,
      ap length c.loop-k.invariant,
      length-append c.args.rows.now.items (map in_normal_form written),
      length-map written in_normal_form,
      length-map (numbers_to c.loop-k.k) (pair_row c.args.inst.now),
      length-numbers_to c.loop-k.k,
      c.loop-k.auto.k-end,
      c.pairs-k-end.ensures.few,
    )
