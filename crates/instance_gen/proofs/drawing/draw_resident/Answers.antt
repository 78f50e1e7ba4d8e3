use Rattle.std.proofs.Common.{ap, length, sym, arith}
use Rattle.std.proofs.lemmas.List.{length-take-le}
use Rattle.rank_tables.proofs.Below.{length-below}
use Rattle.instance_gen.proofs.drawing.draw_resident.Goals as goal

pub shuffle-requires-clause-few : goal.shuffle-requires-clause-few
shuffle-requires-clause-few c = omega (arith, ap length c.requires.numbers, length-below c.args.recipe.now.hospitals, c.requires.recipe.hospitals)

pub shuffle-requires-clause-steps : goal.shuffle-requires-clause-steps
shuffle-requires-clause-steps c = omega (arith, ap length c.requires.numbers, length-below c.args.recipe.now.hospitals, c.requires.recipe.choices)

pub slice_bounds-tie-end : goal.slice_bounds-tie-end
slice_bounds-tie-end c = omega (arith, c.shuffle.ensures.count, ap length c.requires.numbers, length-below c.args.recipe.now.hospitals, c.requires.recipe.choices)

pub slice_bounds-tie-end-2 : goal.slice_bounds-tie-end-2
slice_bounds-tie-end-2 c = sym (length-take-le c.args.recipe.now.choices c.shuffle.new.numbers (omega (arith, c.shuffle.ensures.count, ap length c.requires.numbers, length-below c.args.recipe.now.hospitals, c.requires.recipe.choices)))
