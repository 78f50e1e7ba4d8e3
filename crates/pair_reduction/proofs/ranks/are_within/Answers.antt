use Rattle.pair_reduction.proofs.RankTests.{asked}
use Rattle.pair_reduction.proofs.ranks.are_within.Goals as goal

pub returns : goal.returns
returns c = asked c.args.ranks.now c.args.k c.args.r c.requires c.if-k-eq0.false c.if-k-ranks.false
