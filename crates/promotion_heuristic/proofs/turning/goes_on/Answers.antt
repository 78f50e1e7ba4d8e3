use Rattle.promotion_heuristic.proofs.Rising.{rising-pairs_of_resident}
use Rattle.promotion_heuristic.proofs.turning.goes_on.Goals as goal

pub first_after-requires : goal.first_after-requires
first_after-requires c = rising-pairs_of_resident c.args.inst.now c.args.r c.pairs_of_resident.result.now c.pairs_of_resident.ensures.numbers
