use Rattle.std.proofs.Common.{◌∙◌, arith}
use Rattle.rank_tables.specs.Tables.{numbers_of}
use Rattle.stability_model.proofs.RowSizes.{at_most_fits}
use Rattle.stability_model.proofs.making.at_most_row.Goals as goal

pub from_terms_that_fit-requires : goal.from_terms_that_fit-requires
from_terms_that_fit-requires c =
    at_most_fits (numbers_of c.args.pairs.now) c.deref.result.now c.from.result c.args.most
    (c.deref.ensures.value ∙ c.in_ok-terms.ensures) (omega (arith, c.deref.ensures.len, c.in_ok-terms.terms.ok.0)) c.from.ensures (omega (arith, c.ranges.most.fits))
