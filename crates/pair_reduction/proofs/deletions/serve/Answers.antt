use Rattle.pair_reduction.proofs.Offering.{by_none}
use Rattle.pair_reduction.proofs.deletions.serve.Goals as goal

pub returns-in-Resident-clause-reduces : goal.returns-in-Resident-clause-reduces
returns-in-Resident-clause-reduces c = by_none c.args.model.now c.args.deriv.now c.args.known.now.gone c.args.offers.now c.requires.can c.requires.offers
