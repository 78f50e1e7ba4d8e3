use Rattle.std.proofs.Common.{ap, ◌∙◌}
use Rattle.rank_tables.specs.Numbers.{is_distinct}
use Rattle.pair_reduction.specs.declared.sides.Side.TheVariants.{Resident}
use Rattle.pair_reduction.proofs.TwoSides.{listed_once}
use Rattle.pair_reduction.proofs.sides.pairs_on.Goals as goal

pub returns-in-Resident-clause-distinct : goal.returns-in-Resident-clause-distinct
returns-in-Resident-clause-distinct c = ap is_distinct c.pairs_of_resident.ensures.numbers ∙ listed_once Resident c.args.inst.now c.args.n
