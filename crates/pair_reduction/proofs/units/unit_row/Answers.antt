use Rattle.pair_reduction.proofs.UnitMade.{row_is}
use Rattle.pair_reduction.proofs.units.unit_row.Goals as goal

pub returns : goal.returns
returns c = row_is c.args.p.0 c.from_terms_that_fit.result c.from_terms_that_fit.ensures
