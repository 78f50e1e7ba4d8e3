use Rattle.level_sweep.proofs.Rows.{lowest-of-rows, lowest-permuted}
use Rattle.level_sweep.proofs.sweeping.lowest_open.Goals as goal

pub returns-clause-lowest : goal.returns-clause-lowest
returns-clause-lowest c = lowest-permuted c.args.degree c.args.stands.now c.sort.new.stands c.sort.ensures.permutation c.lowest_falling.result c.lowest_falling.ensures

pub returns-clause-rows : goal.returns-clause-rows
returns-clause-rows c =
    lowest-of-rows c.args.degree c.args.stands.now c.lowest_falling.result
    (lowest-permuted c.args.degree c.args.stands.now c.sort.new.stands c.sort.ensures.permutation c.lowest_falling.result c.lowest_falling.ensures)
